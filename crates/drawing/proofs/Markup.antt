-- Escaped texts have no byte of markup.
use Rattle.std.proofs.Common.{◌≡◌, ℕ, zero, suc, ◌+◌, ◌/◌, ◌%◌, ◌<◌, ◌≤◌, Bool, true, false, ◌||◌, ◌==◌, inl, inr, List, [], ◌∷◌, refl, ap, ◌∙◌, arith, le-ltb, lt-ltb}
use Rattle.std.specs.Prelude.{if◌then◌else◌}
use Rattle.std.specs.List.{list_any, flat_map}
use Rattle.std.specs.Str.{chars}
use Rattle.std.specs.Char.{encode_utf8}
use Rattle.std.proofs.lemmas.Bool.{cond-true, cond-false, cases_lt, cases_Bool}
use Rattle.std.proofs.lemmas.List.Folds.{list_any-append}
use Rattle.std.specs.Fmt.{digit_glyph, digits, digits_onto}
use Rattle.drawing.specs.Escaped.{escaped_char, escaped, hidden_char, is_hidden, is_markup}

none_of : (a b c d : Bool) → a ≡ false → b ≡ false → c ≡ false → d ≡ false → ((a || b) || (c || d)) ≡ false
none_of a b c d p q r s = ap (λ x. (x || b) || (c || d)) p ∙ ap (λ x. x || (c || d)) q ∙ ap (λ x. x || d) r ∙ s

differs : (b n : ℕ) → ¬ (b ≡ n) → (b == n) ≡ false
differs b n apart = elim (cases_Bool (b == n)) as (λ _. (b == n) ≡ false) [ inl h ↦ absurd (apart (equal b n h)) | inr h ↦ h ]
  where
    equal : (x y : ℕ) → (x == y) ≡ true → x ≡ y
    equal x y h = grind (arith)

-- a byte of a character past ASCII
high : (b : ℕ) → 128 ≤ b → is_markup b ≡ false
high b past =
    none_of _ _ _ _ (differs b 60 (λ is. no b 60 is past (omega arith))) (differs b 62 (λ is. no b 62 is past (omega arith))) (differs b 34 (λ is. no b 34 is past (omega arith))) (differs b 39 (λ is. no b 39 is past (omega arith)))
  where
    no : (x n : ℕ) → x ≡ n → 128 ≤ x → n < 128 → ⊥
    no x n is a c = omega (arith, is, a, c)

-- the bytes of a character that is none of the escaped ones
plain : (c : ℕ) → is_markup c ≡ false → list_any is_markup (encode_utf8 c) ≡ false
unfolding encode_utf8
plain c none =
    elim (cases_lt c 128) as (λ _. list_any is_markup (encode_utf8 c) ≡ false) [
      | inl low ↦ ap (list_any is_markup) (cond-true _ _ _ (lt-ltb c 128 low)) ∙ ap (λ x. x || false) none
      | inr past ↦
          elim (cases_lt c 2048) as (λ _. list_any is_markup (encode_utf8 c) ≡ false) [
            | inl two ↦ ap (list_any is_markup) (cond-false _ _ _ (le-ltb c 128 past) ∙ cond-true _ _ _ (lt-ltb c 2048 two)) ∙ both (192 + c / 64) (128 + c % 64) (omega arith) (omega arith)
            | inr more ↦
                elim (cases_lt c 65536) as (λ _. list_any is_markup (encode_utf8 c) ≡ false) [
                  | inl three ↦ ap (list_any is_markup) (cond-false _ _ _ (le-ltb c 128 past) ∙ cond-false _ _ _ (le-ltb c 2048 more) ∙ cond-true _ _ _ (lt-ltb c 65536 three)) ∙ all_three (224 + c / 4096) (128 + (c / 64) % 64) (128 + c % 64) (omega arith) (omega arith) (omega arith)
                  | inr four ↦ ap (list_any is_markup) (cond-false _ _ _ (le-ltb c 128 past) ∙ cond-false _ _ _ (le-ltb c 2048 more) ∙ cond-false _ _ _ (le-ltb c 65536 four))
                      ∙ ap (λ x. x || list_any is_markup ((128 + (c / 4096) % 64) ∷ (128 + (c / 64) % 64) ∷ (128 + c % 64) ∷ [])) (high (240 + c / 262144) (omega arith)) ∙ all_three (128 + (c / 4096) % 64) (128 + (c / 64) % 64) (128 + c % 64) (omega arith) (omega arith) (omega arith)
                ]
          ]
    ]
  where
    both : (x y : ℕ) → 128 ≤ x → 128 ≤ y → list_any is_markup (x ∷ y ∷ []) ≡ false
    both x y a b = ap (λ t. t || list_any is_markup (y ∷ [])) (high x a) ∙ ap (λ t. t || false) (high y b)

    all_three : (x y z : ℕ) → 128 ≤ x → 128 ≤ y → 128 ≤ z → list_any is_markup (x ∷ y ∷ z ∷ []) ≡ false
    all_three x y z a b d = ap (λ t. t || list_any is_markup (y ∷ z ∷ [])) (high x a) ∙ both y z b d

-- a digit in base 16
glyph : (d : ℕ) → d < 16 → is_markup (digit_glyph false d) ≡ false
glyph d low = elim (cases_lt d 10) as (λ _. is_markup (digit_glyph false d) ≡ false) [
  | inl small ↦ ap is_markup (cond-true _ _ _ (lt-ltb d 10 small)) ∙ apart_from (48 + d) (omega arith) (λ is. omega (arith, is, small)) (λ is. omega (arith, is, small))
  | inr large ↦ ap is_markup (cond-false _ _ _ (le-ltb d 10 large)) ∙ apart_from (87 + d) (omega arith) (λ is. omega (arith, is, large)) (λ is. omega (arith, is, large))
]
  where
    apart_from : (b : ℕ) → 48 ≤ b → ¬ (b ≡ 60) → ¬ (b ≡ 62) → is_markup b ≡ false
    apart_from b past less more = none_of _ _ _ _ (differs b 60 less) (differs b 62 more) (differs b 34 (λ is. omega (arith, is, past))) (differs b 39 (λ is. omega (arith, is, past)))

-- of a choice, where neither has such a byte, one doesn't
chosen : (test : Bool) (a b : List ℕ) → list_any is_markup a ≡ false → list_any is_markup b ≡ false → list_any is_markup (if test then a else b) ≡ false
chosen true a b one other = one
chosen false a b one other = other

-- one digit more
one_glyph : (n : ℕ) (after : List ℕ) → list_any is_markup after ≡ false → list_any is_markup (digit_glyph false (n % 16) ∷ after) ≡ false
one_glyph n after none = ap (λ t. t || list_any is_markup after) (glyph (n % 16) (omega arith)) ∙ none

-- digits in base 16, before what has no such byte
glyphs : (k n : ℕ) (after : List ℕ) → list_any is_markup after ≡ false → list_any is_markup (digits_onto k 16 false n after) ≡ false
glyphs zero n after none = none
glyphs (suc k) n after none =
    chosen (n / 16 == 0) _ _ (one_glyph n after none) (glyphs k (n / 16) (digit_glyph false (n % 16) ∷ after) (one_glyph n after none))

-- a character by its number
numbered : (c : ℕ) → list_any is_markup (hidden_char c) ≡ false
unfolding hidden_char digits
numbered c = list_any-append is_markup (digits_onto 64 16 false c []) (125 ∷ []) ∙ ap (λ t. t || false) (glyphs 64 c [] refl)

-- a choice, where neither way has such a byte
either_way : (test : Bool) (a b : List ℕ) → list_any is_markup a ≡ false → (test ≡ false → list_any is_markup b ≡ false) → list_any is_markup (if test then a else b) ≡ false
either_way true a b here there = here
either_way false a b here there = there refl

of_char : (c : ℕ) → list_any is_markup (escaped_char c) ≡ false
of_char c =
    either_way (c == 38) _ _ refl (λ amp. either_way (c == 60) _ _ refl (λ less. either_way (c == 62) _ _ refl (λ more. either_way (c == 34) _ _ refl (λ quote. either_way (c == 39) _ _ refl (λ tick.
    either_way (is_hidden c) _ _ (numbered c) (λ _. plain c (none_of _ _ _ _ less more quote tick)))))))

of_chars : (cs : List ℕ) → list_any is_markup (flat_map escaped_char cs) ≡ false
of_chars [] = refl
of_chars (c ∷ cs) = list_any-append is_markup (escaped_char c) (flat_map escaped_char cs) ∙ ap (λ t. t || list_any is_markup (flat_map escaped_char cs)) (of_char c) ∙ of_chars cs

pub no_markup : (text : List ℕ) → list_any is_markup (escaped text) ≡ false
no_markup text = of_chars (chars text)
