-- The least of numbers, one number further, and sums.
use Rattle.std.proofs.Common.{◌≡◌, ℕ, ◌+◌, ◌-◌, ◌^◌, ◌<◌, ◌≤◌, inl, inr, min, true, false, Option, Some, None, refl, sym, ap, ◌∙◌, arith}
use Rattle.std.proofs.lemmas.Bool.{cases_lt, false≢true, ltb-true, ltb-false}
use Rattle.links.specs.Least.{lesser_of}
use Rattle.lookahead.specs.Least.{IsLeastOf, IsAtMost, sum_of, is_less}
use Rattle.lookahead.specs.Lengths.{weight_of}

module _ (numbers : ℕ → Option ℕ) (k : ℕ) where
  absent : (m n : ℕ) → ((i : ℕ) → i < k → numbers i ≡ None) → m < k → numbers m ≡ Some n → ⊥
  absent m n before below has = let none = before m below in cc

  at_last : (m n e : ℕ) → numbers k ≡ Some e → m < k + 1 → k ≤ m → numbers m ≡ Some n → e ≡ n
  at_last m n e is below past has = let same : m ≡ k = omega arith in cc

  pub least_more : (least here : Option ℕ) → IsLeastOf numbers k least → numbers k ≡ here → IsLeastOf numbers (k + 1) (lesser_of least here)
  least_more None None before is = λ m below. elim (cases_lt m k) as (λ _. numbers m ≡ None) [
    | inl a ↦ before m a
    | inr b ↦ (let same : m ≡ k = omega arith in ap numbers same ∙ is)
  ]
  least_more None (Some e) before is = (
    (k, omega arith, is),
    λ m n below has. elim (cases_lt m k) as (λ _. e ≤ n) [
      | inl a ↦ absurd (absent m n before a has)
      | inr b ↦ (let same : e ≡ n = at_last m n e is below b has in omega arith)
    ],
  )
  least_more (Some d) None (reached, fewer) is = (
    (reached.0, omega (arith, reached.1), reached.2),
    λ m n below has. elim (cases_lt m k) as (λ _. d ≤ n) [
      | inl a ↦ fewer m n a has
      | inr b ↦ (let same : m ≡ k = omega arith in let none : numbers m ≡ None = ap numbers same ∙ is in cc)
    ],
  )
  least_more (Some d) (Some e) (reached, fewer) is = (
    elim (cases_lt e d) as (λ _. (m : ℕ) × (m < k + 1) × (numbers m ≡ Some (min d e))) [
      | inl a ↦ (k, omega arith, (let same : e ≡ min d e = omega (arith, a) in is ∙ ap (λ x. Some x) same))
      | inr b ↦ (reached.0, omega (arith, reached.1), (let same : d ≡ min d e = omega (arith, b) in reached.2 ∙ ap (λ x. Some x) same))
    ],
    λ m n below has. elim (cases_lt m k) as (λ _. min d e ≤ n) [
      | inl a ↦ (let few = fewer m n a has in omega arith)
      | inr b ↦ (let same : e ≡ n = at_last m n e is below b has in omega arith)
    ],
  )

-- a sum that is there is of two numbers
pub record IsSumOf (a b : Option ℕ) (n : ℕ) : Type 0 where
  pub one : ℕ
  pub other : ℕ
  pub first : a ≡ Some one
  pub second : b ≡ Some other
  pub sum : n ≡ min (one + other) (2 ^ 64 - 1)

pub some_same : (m n : ℕ) → Some m ≡ Some n → n ≡ m
some_same m n same = cc

pub parts_of_sum : (a b : Option ℕ) (n : ℕ) → sum_of a b ≡ Some n → IsSumOf a b n
parts_of_sum (Some x) (Some y) n is = record { one = x; other = y; first = refl; second = refl; sum = some_same (min (x + y) (2 ^ 64 - 1)) n is }
parts_of_sum (Some x) None n is = absurd (let no : None ≡ Some n = is in cc)
parts_of_sum None b n is = absurd (let no : None ≡ Some n = is in cc)

pub no_more : (o : Option ℕ) (m n : ℕ) → IsAtMost o m → m ≤ n → IsAtMost o n
no_more None m n is up = is
no_more (Some d) m n is up = omega (arith, is)

-- what is no more than any sum of two is no more than what these are no more than
pub sums_of : (a b c : Option ℕ) (x y : ℕ) → IsAtMost a x → IsAtMost b y → ((n : ℕ) → sum_of a b ≡ Some n → IsAtMost c n) → IsAtMost c (x + y)
sums_of None b c x y p q all = absurd p
sums_of (Some a) None c x y p q all = absurd q
sums_of (Some a) (Some b) c x y p q all = no_more c (min (a + b) (2 ^ 64 - 1)) (x + y) (all (min (a + b) (2 ^ 64 - 1)) refl) (omega (arith, p, q))

-- where the least isn't less than what stands, what stands is no more than any
pub none_less : (numbers : ℕ → Option ℕ) (k : ℕ) (least stands : Option ℕ) → IsLeastOf numbers k least → is_less least stands ≡ false → (m n : ℕ) → m < k → numbers m ≡ Some n → IsAtMost stands n
none_less numbers k None stands is isnt m n below has = absurd (absent numbers k m n is below has)
none_less numbers k (Some d) None is isnt m n below has = absurd (false≢true (sym isnt))
none_less numbers k (Some d) (Some b) is isnt m n below has =
    let few = is.1 m n below has in
    let past : b ≤ d = ltb-false d b isnt in
    omega arith

pub weighs_less : (one other : Option ℕ) → is_less one other ≡ true → ((n : ℕ) → one ≡ Some n → n < 2 ^ 64) → weight_of one < weight_of other
weighs_less None b is fits = absurd (false≢true is)
weighs_less (Some a) None is fits = fits a refl
weighs_less (Some a) (Some b) is fits = ltb-true a b is
