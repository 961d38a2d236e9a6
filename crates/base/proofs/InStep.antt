-- The next moment in step is the least one.
use Rattle.std.proofs.Common.{◌≡◌, ℕ, ◌+◌, ◌-◌, ◌*◌, ◌/◌, ◌%◌, ◌<◌, ◌≤◌, ◌⊎◌, inl, inr, sym, ap, subst, ◌∙◌, arith}
use Rattle.std.proofs.Math.Nat.{mod-lt, mul-le-mul_right, add-mul, one-mul}
use Rattle.std.proofs.lemmas.Nat.{mod-mul-add, div-add-mod'}
use Rattle.base.specs.Beats.{next_in_step, IsNextInStep}

-- the moment, by the whole intervals in it
moment_is : (now n b r whole : ℕ) → b < n → r < n → whole + r ≡ now + n - b → now + n - r ≡ whole + b
moment_is now n b r whole small few parts = omega arith

later : (now n r : ℕ) → r < n → now < now + n - r
later now n r few = omega arith

before_or_past : (q p : ℕ) → (q ≤ p) ⊎ (p + 1 ≤ q)
before_or_past q p = grind arith

-- another moment in step has as many whole intervals, or it is no later than now
with_as_many : (at other b whole others : ℕ) → whole ≤ others → at ≡ whole + b → others + b ≡ other → at ≤ other
with_as_many at other b whole others h here its = omega arith

with_fewer : (now n b r whole others other : ℕ) → r < n → whole + r ≡ now + n - b → others + b ≡ other → now < other → b < n → others + n ≤ whole → ⊥
with_fewer now n b r whole others other few parts its after small h = omega arith

by_intervals : (now n b r other q p : ℕ) → b < n → r < n → q * n + r ≡ now + n - b → p * n + b ≡ other → now < other
    → (q ≤ p) ⊎ (p + 1 ≤ q) → now + n - r ≤ other
by_intervals now n b r other q p small few parts its after (inl h) =
    with_as_many (now + n - r) other b (q * n) (p * n) (mul-le-mul_right n h) (moment_is now n b r (q * n) small few parts) its
by_intervals now n b r other q p small few parts its after (inr h) =
    let one : (p + 1) * n ≡ p * n + n = add-mul p 1 n ∙ ap (λ m. p * n + m) (one-mul n) in
    let up : p * n + n ≤ q * n = subst (λ m. m ≤ q * n) one (mul-le-mul_right n h) in
    absurd (with_fewer now n b r (q * n) (p * n) other few parts its after small up)

pub is_next : (beat n now : ℕ) → 0 < n → IsNextInStep beat n now (next_in_step beat n now)
is_next beat n now some = record {
  later = later now n (x % n) few;
  in_step = ap (λ t. t % n) (moment_is now n (beat % n) (x % n) (x / n * n) small few parts) ∙ mod-mul-add (x / n) n (beat % n) small;
  least = λ other more same.
      by_intervals now n (beat % n) (x % n) other (x / n) (other / n) small few parts
      (ap (λ r. other / n * n + r) (sym same) ∙ div-add-mod' other n) more (before_or_past (x / n) (other / n));
}
  where
    x : ℕ
    x = now + n - beat % n

    small : beat % n < n
    small = mod-lt beat some

    few : x % n < n
    few = mod-lt x some

    parts : x / n * n + x % n ≡ x
    parts = div-add-mod' x n
