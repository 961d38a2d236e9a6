-- Members forgotten one after another.
use Rattle.std.proofs.Common.{◌≡◌, ℕ, zero, suc, ◌+◌, ◌-◌, ◌<◌, Bool, true, false, cond, ◌==◌, length, Option, Some, None, refl, sym, ap, subst, ◌∙◌, arith}
use Rattle.std.specs.FinMap.{get}
use Rattle.base.specs.declared.key.Key.{Key}
use Rattle.scenario.specs.Setup.{Setup, member_count}
use Rattle.incarnation.specs.declared.Claim.{Claim}
use Rattle.member.specs.Effects.{Effect, on_state, with_row}
use Rattle.trace.specs.declared.row.What.TheVariants as what
use Rattle.member.specs.Forgetting.{without_entry, kept_for, is_long_dead, forgotten_if, all_forgotten, round_ended}
use Rattle.member.specs.CounterOverflow.{IsOverflowed}

module _ (s : Setup) (k : Key) where
  -- one more
  one_more : (n : ℕ) (o : Effect) → all_forgotten s k (n + 1) o ≡ forgotten_if s k n (get (all_forgotten s k n o).state.table n) (all_forgotten s k n o)
  unfolding all_forgotten
  one_more n o = ap (λ m. all_forgotten s k m o) (let next : n + 1 ≡ suc n = omega arith in next)

  pub forgotten_next : (n : ℕ) (o p q : Effect) → p ≡ all_forgotten s k n o → q ≡ forgotten_if s k n (get p.state.table n) p → q ≡ all_forgotten s k (n + 1) o
  forgotten_next n o p q so_far next = next ∙ ap (λ (e : Effect). forgotten_if s k n (get e.state.table n) e) so_far ∙ sym (one_more n o)

  -- all of them
  pub forgotten_all : (n count : ℕ) (o p : Effect) → p ≡ all_forgotten s k n o → n ≡ count → p ≡ all_forgotten s k count o
  forgotten_all n count o p so_far all = so_far ∙ ap (λ m. all_forgotten s k m o) all

  -- none of it raises a counter
  overflow_if : (member : ℕ) (held : Option (Claim × ℕ)) (o : Effect) → IsOverflowed o.state → IsOverflowed (forgotten_if s k member held o).state
  unfolding with_row
  overflow_if member None o overflow = overflow
  overflow_if member (Some held) o overflow = either (is_long_dead k.at (kept_for s.gossip) (o.state.since member) held.0)
    where
      either : (b : Bool) → IsOverflowed (cond b (with_row k what.Forget (Some member) held.1 false (on_state (without_entry member) o)) o).state
      either true = overflow
      either false = overflow

  overflow_all : (n : ℕ) (o : Effect) → IsOverflowed o.state → IsOverflowed (all_forgotten s k n o).state
  unfolding all_forgotten
  overflow_all zero o overflow = overflow
  overflow_all (suc n) o overflow = overflow_if n (get (all_forgotten s k n o).state.table n) (all_forgotten s k n o) (overflow_all n o overflow)

  pub overflow_ended : (o : Effect) → IsOverflowed o.state → IsOverflowed (round_ended s k o).state
  unfolding round_ended
  overflow_ended o overflow = either (o.state.rota.mark == length o.state.rota.members)
    where
      either : (b : Bool) → IsOverflowed (cond b (all_forgotten s k (member_count s) o) o).state
      either true = overflow_all (member_count s) o overflow
      either false = overflow

  -- what a part of it overflows the whole does
  next_too : (n : ℕ) (o : Effect) → IsOverflowed (all_forgotten s k n o).state → IsOverflowed (all_forgotten s k (suc n) o).state
  unfolding all_forgotten
  next_too n o overflow = overflow_if n (get (all_forgotten s k n o).state.table n) (all_forgotten s k n o) overflow

  further : (n more : ℕ) (o : Effect) → IsOverflowed (all_forgotten s k n o).state → IsOverflowed (all_forgotten s k (more + n) o).state
  further n zero o overflow = subst (λ m. IsOverflowed (all_forgotten s k m o).state) (let same : n ≡ zero + n = omega arith in same) overflow
  further n (suc more) o overflow =
      subst (λ m. IsOverflowed (all_forgotten s k m o).state) (let same : suc (more + n) ≡ suc more + n = omega arith in same) (next_too (more + n) o (further n more o overflow))

  pub forgotten_overflow : (n count : ℕ) (o p : Effect) → n < count → p ≡ all_forgotten s k n o → IsOverflowed (forgotten_if s k n (get p.state.table n) p).state
      → IsOverflowed (all_forgotten s k count o).state
  forgotten_overflow n count o p below so_far overflow =
      let there : IsOverflowed (all_forgotten s k (n + 1) o).state = subst (λ (q : Effect). IsOverflowed q.state) (forgotten_next n o p _ so_far refl) overflow in
      subst (λ m. IsOverflowed (all_forgotten s k m o).state) (let all : count - (n + 1) + (n + 1) ≡ count = omega (arith, below) in all) (further (n + 1) (count - (n + 1)) o there)
