-- Words that are put together with a byte between their parts, and what the parts are then.
use Rattle.std.proofs.Common.{◌≡◌, ◌≢◌, ◌<◌, ◌^◌, ◌==◌, ℕ, Bool, true, false, List, [], ◌∷◌, ◌++◌, All, length, get_or, decimal, sym, ap, subst, ◌∙◌, arith}
use Rattle.std.specs.List.{slice_split, join_with_byte, list_any}
use Rattle.std.proofs.lemmas.Bool.{or_parts}
use Rattle.std.specs.Str.Parse.{AllDigits, digits_value}
use Rattle.std.proofs.lemmas.Bool.Decides.{nat_tests}
use Rattle.std.proofs.lemmas.List.{append_cancel_left, get_or_default}
use Rattle.std.proofs.lemmas.List.Elements.{All-cons, All-head, All-nil, All-tail}
use Rattle.std.proofs.lemmas.List.Splits.{slice_split_none, slice_split_at}
use Rattle.std.proofs.lemmas.Str.Parse.{IsNumeralModel, numerals_by_value, tells_digits, not_in_digits}
use Rattle.std.proofs.lemmas.Fmt.{decimal_is_IsNumeral}

-- the byte is none of these
abbrev pub Lacks : ℕ → List ℕ → Type 0
Lacks c xs = All (λ x. (x == c) ≡ false) xs

-- as a test says
pub lacks_from_test : (c : ℕ) (xs : List ℕ) → list_any (λ byte. byte == c) xs ≡ false → Lacks c xs
lacks_from_test c [] none = All-nil (λ x. (x == c) ≡ false)
lacks_from_test c (x ∷ xs) none =
    let parts = or_parts (x == c) (list_any (λ byte. byte == c) xs) none in
    All-cons (λ y. (y == c) ≡ false) x xs parts.0 (lacks_from_test c xs parts.1)

pub unlike : (c : ℕ) (xs : List ℕ) → Lacks c xs → (i : ℕ) → i < length xs → get_or xs i 0 ≢ c
unlike c xs lacks i inside is =
    let other : (get_or xs i 0 == c) ≡ false = lacks i 0 inside in
    grind (arith, nat_tests)

pub lacks_each : (c : ℕ) (xs : List ℕ) → ((i : ℕ) → i < length xs → get_or xs i 0 ≢ c) → Lacks c xs
lacks_each c xs other k d inside =
    let here : get_or xs k d ≢ c = subst (λ x. x ≢ c) (get_or_default xs k 0 d inside) (other k inside) in
    grind (arith, nat_tests)

own : IsNumeralModel (AllDigits 10) (digits_value 10)
own = numerals_by_value (AllDigits 10) tells_digits

-- a number in decimal has digits alone
pub decimal_lacks : (n c : ℕ) → n < 2 ^ 64 → c < 48 → Lacks c (decimal n)
decimal_lacks n c low small =
    lacks_each c (decimal n) (not_in_digits own (decimal n) c (decimal_is_IsNumeral n low).0.1 (λ within. omega (arith, within.0)))

-- what stands before the first such byte, and after it
pub cut_once : (c : ℕ) (a b x y : List ℕ) → Lacks c a → Lacks c b → a ++ c ∷ x ≡ b ++ c ∷ y → (a ≡ b) × (x ≡ y)
cut_once c a b x y in_a in_b same =
    let self : (c == c) ≡ true = grind (arith, nat_tests) in
    let test : ℕ → Bool = λ byte. byte == c in
    let parts : a ∷ slice_split test x ≡ b ∷ slice_split test y =
    sym (slice_split_at test a c x in_a self) ∙ ap (slice_split test) same ∙ slice_split_at test b c y in_b self in
    let first : a ≡ b = cc in
    let rest : c ∷ x ≡ c ∷ y = append_cancel_left b (c ∷ x) (c ∷ y) (ap (λ front. front ++ c ∷ x) (sym first) ∙ same) in
    (first, cc)

-- parts that are joined by a byte that none has are cut there again
pub joined_split : (c : ℕ) (parts : List (List ℕ)) → 0 < length parts → All (Lacks c) parts → slice_split (λ byte. byte == c) (join_with_byte c parts) ≡ parts
joined_split c [] some lacks = absurd (omega arith)
joined_split c (part ∷ []) some lacks = slice_split_none (λ byte. byte == c) part (All-head (Lacks c) part [] lacks)
joined_split c (part ∷ next ∷ parts) some lacks =
    let self : (c == c) ≡ true = grind (arith, nat_tests) in
    slice_split_at (λ byte. byte == c) part c (join_with_byte c (next ∷ parts)) (All-head (Lacks c) part (next ∷ parts) lacks) self
    ∙ ap (λ more. part ∷ more) (joined_split c (next ∷ parts) (omega arith) (All-tail (Lacks c) part (next ∷ parts) lacks))
