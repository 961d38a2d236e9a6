-- Slow times that say the most first: the first that is at a moment says as much as any.
use Rattle.std.proofs.Common.{◌≡◌, ◌<◌, ◌≤◌, ◌+◌, ℕ, suc, List, [], ◌∷◌, Bool, true, false, cond, max, ◌&&◌, ◌||◌, nat_lt, length, get_or, inl, inr, Option, Some, None, refl, ap, sym, ◌∙◌, arith}
use Rattle.std.specs.List.{find, list_any, AllByRecursion}
use Rattle.std.specs.List.Sorted.{IsPermutation}
use Rattle.std.specs.Option.{option_map_or}
use Rattle.std.proofs.lemmas.Bool.{cases_lt, cases_order, false≢true, lt-ltb, le-ltb, or_left, or_right, or_from, cond_both}
use Rattle.std.proofs.lemmas.List.Sorted.{list_any-IsPermutation}
use Rattle.schema.specs.declared.schema.Version.{Version}
use Rattle.schema.specs.declared.schema.Version.TheVariants.{One, Two, Three, Four}
use Rattle.scenario.specs.Setup.{is_slow, first_extra, more_extra, greatest_extra, extra_by, is_fourth}
use Rattle.scenario.specs.declared.settings.Slow.{Slow}

-- no entry says more than those before it
abbrev Fall : List Slow → Type 0
Fall [] = Unit {0}
Fall (e ∷ es) = AllByRecursion (λ (f : Slow). f.extra ≤ e.extra) es × Fall es

all_less : (n : ℕ) (es : List Slow) → ((k : ℕ) (d : Slow) → k < length es → (get_or es k d).extra ≤ n) → AllByRecursion (λ (f : Slow). f.extra ≤ n) es
all_less n [] h = tt
all_less n (e ∷ es) h = (h 0 e (omega arith), all_less n es (λ k d within. h (suc k) d (omega (arith, within))))

fall_of : (es : List Slow) → ((i j : ℕ) (d : Slow) → i ≤ j → j < length es → (get_or es j d).extra ≤ (get_or es i d).extra) → Fall es
fall_of [] h = tt
fall_of (e ∷ es) h = (
  all_less e.extra es (λ k d within. h 0 (suc k) d (omega arith) (omega (arith, within))),
  fall_of es (λ i j d order within. h (suc i) (suc j) d (omega (arith, order)) (omega (arith, within))),
)

says_by : (b : Bool) (e : Slow) (rest : Option Slow) (greatest : ℕ) → option_map_or (λ (f : Slow). f.extra) rest 0 ≡ greatest → greatest ≤ e.extra
    → option_map_or (λ (f : Slow). f.extra) (cond b (Some e) rest) 0 ≡ cond b (max e.extra greatest) greatest
says_by true e rest greatest same less = omega (arith, less)
says_by false e rest greatest same less = same

over : (n a b : ℕ) → nat_lt n (max a b) ≡ (nat_lt n a || nat_lt n b)
over n a b = elim (cases_lt n a) as (λ _. nat_lt n (max a b) ≡ (nat_lt n a || nat_lt n b)) [
  | inl low ↦ lt-ltb n (max a b) (omega (arith, low)) ∙ sym (or_left (nat_lt n a) (nat_lt n b) (lt-ltb n a low))
  | inr high ↦ elim (cases_lt n b) as (λ _. nat_lt n (max a b) ≡ (nat_lt n a || nat_lt n b)) [
    | inl low ↦ lt-ltb n (max a b) (omega (arith, low)) ∙ sym (or_right (nat_lt n a) (nat_lt n b) (lt-ltb n b low))
    | inr past ↦ le-ltb n (max a b) (omega (arith, high, past)) ∙ sym (or_from (nat_lt n a) (nat_lt n b) (le-ltb n a high) (le-ltb n b past))
  ]
]

over_by : (n a greatest : ℕ) (b rest : Bool) → nat_lt n greatest ≡ rest → nat_lt n (cond b (max a greatest) greatest) ≡ ((b && nat_lt n a) || rest)
over_by n a greatest true rest same = over n a greatest ∙ ap (λ c. nat_lt n a || c) same
over_by n a greatest false rest same = same

-- numbers with the same numbers below them are one
same_number : (a b : ℕ) → ((n : ℕ) → nat_lt n a ≡ nat_lt n b) → a ≡ b
same_number a b same = elim (cases_order a b) as (λ _. a ≡ b) [
  | inl is ↦ is
  | inr other ↦ elim other as (λ _. a ≡ b) [
    | inl less ↦ absurd (false≢true (sym (le-ltb a a (omega arith)) ∙ same a ∙ lt-ltb a b less))
    | inr more ↦ absurd (false≢true (sym (le-ltb b b (omega arith)) ∙ sym (same b) ∙ lt-ltb b a more))
  ]
]

module _ (m t : ℕ) where
  at_most : (n : ℕ) (es : List Slow) → AllByRecursion (λ (f : Slow). f.extra ≤ n) es → greatest_extra es m t ≤ n
  at_most n [] all = omega arith
  at_most n (e ∷ es) all =
      let rest = at_most n es all.1 in
      cond_both (is_slow m t e) (max e.extra (greatest_extra es m t)) (greatest_extra es m t) (λ k. k ≤ n) (λ _. omega (arith, all.0, rest)) (λ _. rest)

  first_says : (es : List Slow) → Fall es → first_extra es m t ≡ greatest_extra es m t
  first_says [] fall = refl
  first_says (e ∷ es) fall = says_by (is_slow m t e) e (find (is_slow m t) es) (greatest_extra es m t) (first_says es fall.1) (at_most e.extra es fall.0)

  -- ---- the order of entries doesn't count

  abbrev says_over : ℕ → Slow → Bool
  says_over n e = is_slow m t e && nat_lt n e.extra

  some_over : (n : ℕ) (es : List Slow) → nat_lt n (greatest_extra es m t) ≡ list_any (says_over n) es
  some_over n [] = le-ltb n 0 (omega arith)
  some_over n (e ∷ es) = over_by n e.extra (greatest_extra es m t) (is_slow m t e) (list_any (says_over n) es) (some_over n es)

  greatest_same : (xs ys : List Slow) → IsPermutation xs ys → greatest_extra xs m t ≡ greatest_extra ys m t
  greatest_same xs ys moved =
      same_number (greatest_extra xs m t) (greatest_extra ys m t) (λ n. some_over n xs ∙ list_any-IsPermutation (says_over n) xs ys moved ∙ sym (some_over n ys))

  pub falling_says : (slows falling : List Slow) → IsPermutation slows falling → ((i j : ℕ) (d : Slow) → i ≤ j → j < length falling → (get_or falling j d).extra ≤ (get_or falling i d).extra)
      → first_extra falling m t ≡ greatest_extra slows m t
  falling_says slows falling moved falls = first_says falling (fall_of falling falls) ∙ sym (greatest_same slows falling moved)

-- which of the two a version takes
pub fourth_extra : (v : Version) (slows : List Slow) (m t : ℕ) → is_fourth v ≡ true → greatest_extra slows m t ≡ extra_by v slows m t
fourth_extra One slows m t it = absurd (false≢true it)
fourth_extra Two slows m t it = absurd (false≢true it)
fourth_extra Three slows m t it = absurd (false≢true it)
fourth_extra Four slows m t it = refl

pub earlier_extra : (v : Version) (slows : List Slow) (m t : ℕ) → is_fourth v ≡ false → first_extra slows m t ≡ extra_by v slows m t
earlier_extra One slows m t it = refl
earlier_extra Two slows m t it = refl
earlier_extra Three slows m t it = refl
earlier_extra Four slows m t it = absurd (false≢true (sym it))
