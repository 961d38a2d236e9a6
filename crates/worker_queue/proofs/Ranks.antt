-- Keys of one moment by their ranks.
use Rattle.std.proofs.Common.{◌≡◌, ◌<◌, ap, ◌∙◌, sym, refl, arith}
use Rattle.std.specs.Ordering.{nat_cmp, ordering_then, MatchOrdering}
use Rattle.std.specs.Cmp.{ranks, nat_cmp_is}
use Rattle.std.specs.declared.cmp.Ordering.{Ordering}
use Rattle.std.specs.declared.cmp.Ordering.TheVariants.{Less, Equal, Greater}
use Rattle.base.specs.declared.key.Key.{Key}
use Rattle.base.specs.Order.{key_cmp, IsBefore}
use Rattle.worker_queue.specs.Slots.{IsRank}

module _ (a b : Key) (m n : _) (first : IsRank a m) (second : IsRank b n) where
  by_orders : (o p q : Ordering) → MatchOrdering o (a.to < b.to) (a.to ≡ b.to) (b.to < a.to) → MatchOrdering p (a.from < b.from) (a.from ≡ b.from) (b.from < a.from)
      → MatchOrdering q (a.number < b.number) (a.number ≡ b.number) (b.number < a.number) → (m < n → ordering_then o (ordering_then p q) ≡ Less) × (ordering_then o (ordering_then p q) ≡ Less → m < n)
  by_orders Less p q to from number = (λ h. refl, λ e. omega (arith, to, first.is, second.is, first.sender, first.number, second.sender, second.number))
  by_orders Greater p q to from number = (λ h. absurd (omega (arith, h, to, first.is, second.is, first.sender, first.number, second.sender, second.number)), λ e. cc)
  by_orders Equal Less q to from number = (λ h. refl, λ e. omega (arith, to, from, first.is, second.is, first.number, second.number))
  by_orders Equal Greater q to from number = (λ h. absurd (omega (arith, h, to, from, first.is, second.is, first.number, second.number)), λ e. cc)
  by_orders Equal Equal Less to from number = (λ h. refl, λ e. omega (arith, to, from, number, first.is, second.is))
  by_orders Equal Equal Equal to from number = (λ h. absurd (omega (arith, h, to, from, number, first.is, second.is)), λ e. cc)
  by_orders Equal Equal Greater to from number = (λ h. absurd (omega (arith, h, to, from, number, first.is, second.is)), λ e. cc)

  module _ (moment : a.at ≡ b.at) where
    below : (m < n → ordering_then (nat_cmp a.to b.to) (ordering_then (nat_cmp a.from b.from) (nat_cmp a.number b.number)) ≡ Less)
        × (ordering_then (nat_cmp a.to b.to) (ordering_then (nat_cmp a.from b.from) (nat_cmp a.number b.number)) ≡ Less → m < n)
    below = by_orders (nat_cmp a.to b.to) (nat_cmp a.from b.from) (nat_cmp a.number b.number) (ranks a.to b.to) (ranks a.from b.from) (ranks a.number b.number)

    at_moment : key_cmp a b ≡ ordering_then (nat_cmp a.to b.to) (ordering_then (nat_cmp a.from b.from) (nat_cmp a.number b.number))
    unfolding key_cmp
    at_moment = ap (λ o. ordering_then o (ordering_then (nat_cmp a.to b.to) (ordering_then (nat_cmp a.from b.from) (nat_cmp a.number b.number)))) (sym (nat_cmp_is a.at b.at Equal moment))

    -- of two keys of one moment that with the lesser rank is before the other
    pub before-from_ranks : m < n → IsBefore a b
    before-from_ranks less = at_moment ∙ below.0 less

    pub ranks-from_before : IsBefore a b → m < n
    ranks-from_before before = below.1 (sym at_moment ∙ before)
