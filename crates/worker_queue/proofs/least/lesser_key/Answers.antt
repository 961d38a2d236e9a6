use Rattle.std.proofs.Common.{◌≡◌, Option, Some, None, IfSome, sym, subst}
use Rattle.base.specs.declared.key.Key.{Key}
use Rattle.base.specs.Order.{IsBefore}
use Rattle.worker_queue.proofs.Lists.{before_itself, not_both}
use Rattle.worker_queue.proofs.least.lesser_key.Goals as goal

not_before : (o : Option Key) (a k : Key) → o ≡ Some a → ¬ (IsBefore a k) → IfSome o (λ b. ¬ (IsBefore b k))
not_before o a k is h = subst (λ o. IfSome o (λ b. ¬ (IsBefore b k))) (sym is) h

with_itself : (o : Option Key) → IfSome o (λ k. IfSome o (λ b. ¬ (IsBefore b k)))
with_itself None = tt
with_itself (Some k) = before_itself k

pub returns-in_default-clause-second : goal.returns-in_default-clause-second
returns-in_default-clause-second c = with_itself c.args.other

pub returns-in_default-other-clause-first : goal.returns-in_default-other-clause-first
returns-in_default-other-clause-first c = not_before c.args.key c.in-Some.first c.in-Some.first c.in-Some.is (before_itself c.in-Some.first)

pub returns-then-is_before-clause-first : goal.returns-then-is_before-clause-first
returns-then-is_before-clause-first c =
    not_before c.args.key c.in-Some.first c.in-Some-other.second c.in-Some.is (not_both c.in-Some-other.second c.in-Some.first (c.is_before.ensures.0 c.if-is_before.true))

pub returns-then-is_before-clause-second : goal.returns-then-is_before-clause-second
returns-then-is_before-clause-second c = not_before c.args.other c.in-Some-other.second c.in-Some-other.second c.in-Some-other.is (before_itself c.in-Some-other.second)

pub returns-else-is_before-clause-first : goal.returns-else-is_before-clause-first
returns-else-is_before-clause-first c = not_before c.args.key c.in-Some.first c.in-Some.first c.in-Some.is (before_itself c.in-Some.first)
