-- Texts that are appended place after place.
use Rattle.std.proofs.Common.{get_or, length, take, ◌≡◌, ℕ, ◌+◌, ◌*◌, ◌/◌, ◌<◌, ◌≤◌, List, ◌∷◌, [], ◌++◌, ap, sym, ◌∙◌, arith}
use Rattle.std.specs.List.{flat_map, range_with_len}
use Rattle.std.proofs.lemmas.List.{map-id, flat_map_more, take_more}
use Rattle.std.proofs.lemmas.List.FromFn.{map-range_with_len_more}
use Rattle.std.proofs.Math.Nat.{le_trans, mul-le-mul_right, div-mul-le_self}

-- the numbers below n + 1 are those below n, and n
pub range_more : (n : ℕ) → range_with_len 0 (n + 1) ≡ range_with_len 0 n ++ n ∷ []
range_more n = sym (map-id (range_with_len 0 (n + 1))) ∙ map-range_with_len_more (λ x. x) 0 n n (omega arith) ∙ ap (λ l. l ++ n ∷ []) (map-id (range_with_len 0 n))

-- a list that holds what is made of each of the first places goes on by what is made of the next
pub place_more : {A : Type 0} (f : ℕ → List A) (n : ℕ) (old before after : List A) → before ≡ old ++ flat_map f (range_with_len 0 n) → after ≡ before ++ f n → after ≡ old ++ flat_map f (range_with_len 0 (n + 1))
place_more f n old before after held goes =
    goes ∙ ap (λ t. t ++ f n) held ∙ flat_map_more f old (range_with_len 0 n) n ∙ ap (λ l. old ++ flat_map f l) (sym (range_more n))

-- a tick up to the last one stands within its axis
pub tick_within : (tick step most : ℕ) → tick < most / step + 1 → tick * step ≤ most
tick_within tick step most below = le_trans (mul-le-mul_right step (omega (arith, below))) (div-mul-le_self most step)

-- a text that holds what is made of each of the first items goes on by what is made of the next
pub item_more : (f : ℕ → List ℕ) (items : List ℕ) (place : ℕ) (old before after : List ℕ) → place < length items → before ≡ old ++ flat_map f (take place items)
    → after ≡ before ++ f (get_or items place 0) → after ≡ old ++ flat_map f (take (place + 1) items)
item_more f items place old before after within held goes =
    goes ∙ ap (λ t. t ++ f (get_or items place 0)) held ∙ flat_map_more f old (take place items) (get_or items place 0)
    ∙ ap (λ l. old ++ flat_map f l) (sym (take_more items place 0 within))
