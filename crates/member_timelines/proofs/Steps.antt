-- One step more of what is appended, made or added up for each span or item.
use Rattle.std.proofs.Common.{◌≡◌, ℕ, ◌+◌, ◌*◌, ◌/◌, ◌<◌, ◌≤◌, List, [], ◌∷◌, ◌++◌, map, take, length, get_or, min, sum_by, Option, Some, None, filter_map, refl, sym, ap, ◌∙◌, arith, append-nil}
use Rattle.std.specs.Prelude.{flat_map}
use Rattle.std.specs.List.{range_with_len, cons_option}
use Rattle.std.specs.Option.{option_to_list}
use Rattle.std.proofs.Math.Nat.{div-lt_iff_lt-mul}
use Rattle.std.proofs.lemmas.Grind.{flat_map-append}
use Rattle.std.proofs.lemmas.List.{flat_map_more, take_more}
use Rattle.std.proofs.lemmas.List.Elements.{filter_map-append}
use Rattle.std.proofs.lemmas.List.Sums.{sum_by-append, sum_by-cons}
use Rattle.std.proofs.lemmas.List.FromFn.{map-range_with_len_more}
use Rattle.drawing.proofs.Ranges.{range_more}

-- what is appended for each number, with one number more
pub each_more : (f : ℕ → List ℕ) (n : ℕ) → flat_map f (range_with_len 0 (n + 1)) ≡ flat_map f (range_with_len 0 n) ++ f n
each_more f n = ap (flat_map f) (range_more n) ∙ flat_map-append f (range_with_len 0 n) (n ∷ []) ∙ ap (λ l. flat_map f (range_with_len 0 n) ++ l) (append-nil (f n))

-- a text that holds what is made of each of the first numbers goes on by what is made of the next
pub place_more : (f : ℕ → List ℕ) (n : ℕ) (old before after : List ℕ) → before ≡ old ++ flat_map f (range_with_len 0 n) → after ≡ before ++ f n → after ≡ old ++ flat_map f (range_with_len 0 (n + 1))
place_more f n old before after held goes =
    goes ∙ ap (λ t. t ++ f n) held ∙ flat_map_more f old (range_with_len 0 n) n ∙ ap (λ l. old ++ flat_map f l) (sym (range_more n))

-- a text that holds what is made of each of the first items goes on by what is made of the next
pub item_more : {X : Type 0} (f : X → List ℕ) (items : List X) (place : ℕ) (x : X) (old before after : List ℕ) → place < length items → x ≡ get_or items place x
    → before ≡ old ++ flat_map f (take place items) → after ≡ before ++ f x → after ≡ old ++ flat_map f (take (place + 1) items)
item_more f items place x old before after within is held goes =
    goes ∙ ap (λ t. t ++ f x) held ∙ flat_map_more f old (take place items) x
    ∙ ap (λ y. old ++ flat_map f (take place items ++ y ∷ [])) is ∙ ap (λ l. old ++ flat_map f l) (sym (take_more items place x within))

-- a sum with one number more
pub sum_more : (f : ℕ → ℕ) (n : ℕ) → sum_by f (range_with_len 0 (n + 1)) ≡ sum_by f (range_with_len 0 n) + f n
sum_more f n = ap (sum_by f) (range_more n) ∙ sum_by-append f (range_with_len 0 n) (n ∷ []) ∙ ap (λ x. sum_by f (range_with_len 0 n) + x) (sum_by-cons f n [] ∙ alone (f n))
  where
    alone : (a : ℕ) → a + 0 ≡ a
    alone a = omega arith

-- the same as far as a limit allows
pub sum_within : (f : ℕ → ℕ) (n most before after : ℕ) → before ≡ min (sum_by f (range_with_len 0 n)) most → after ≡ min (before + f n) most → after ≡ min (sum_by f (range_with_len 0 (n + 1))) most
sum_within f n most before after held goes =
    goes ∙ ap (λ b. min (b + f n) most) held ∙ cut (sum_by f (range_with_len 0 n)) (f n) most ∙ ap (λ x. min x most) (sym (sum_more f n))
  where
    cut : (a b m : ℕ) → min (min a m + b) m ≡ min (a + b) m
    cut a b m = omega arith

-- where each number is cut by the limit too
pub sum_of_parts : (f : ℕ → ℕ) (n most before part after : ℕ) → before ≡ min (sum_by f (range_with_len 0 n)) most → part ≡ min (f n) most → after ≡ min (before + part) most
    → after ≡ min (sum_by f (range_with_len 0 (n + 1))) most
sum_of_parts f n most before part after held is goes = sum_within f n most before after held (goes ∙ ap (λ x. min (before + x) most) is ∙ cut before (f n) most)
  where
    cut : (a b m : ℕ) → min (a + min b m) m ≡ min (a + b) m
    cut a b m = omega arith

-- a list of what is made of each number, with one number more
pub map_more : (f : ℕ → ℕ) (n : ℕ) (old new : List ℕ) (x : ℕ) → old ≡ map f (range_with_len 0 n) → new ≡ old ++ x ∷ [] → x ≡ f n → new ≡ map f (range_with_len 0 (n + 1))
map_more f n old new x held goes is = goes ∙ ap (λ l. l ++ x ∷ []) held ∙ ap (λ y. map f (range_with_len 0 n) ++ y ∷ []) is ∙ sym (map-range_with_len_more f 0 n n (omega arith))

-- what is kept of the numbers, with one number more
pub filter_more : {X : Type 0} (f : ℕ → Option X) (n : ℕ) → filter_map f (range_with_len 0 (n + 1)) ≡ filter_map f (range_with_len 0 n) ++ option_to_list (f n)
filter_more f n = ap (filter_map f) (range_more n) ∙ filter_map-append f (range_with_len 0 n) (n ∷ []) ∙ ap (λ l. filter_map f (range_with_len 0 n) ++ l) (one (f n))
  where
    one : {X : Type 0} (o : Option X) → cons_option o [] ≡ option_to_list o
    one (Some x) = refl
    one None = refl

-- ---- spans

-- 120 spans hold the moments from 0 to the end
pub few_spans : (end : ℕ) → end / ((end + 120) / 120) + 1 ≤ 120
few_spans end =
    let wide : 0 < (end + 120) / 120 = omega arith in
    let all : end < 120 * ((end + 120) / 120) = omega arith in
    let below : end / ((end + 120) / 120) < 120 = lt_of end ((end + 120) / 120) wide all in
    omega (arith, below)
  where
    lt_of : (x k : ℕ) → 0 < k → x < 120 * k → x / k < 120
    lt_of x k some low = (div-lt_iff_lt-mul {k = k} {x = x} {y = 120} some).1 low
