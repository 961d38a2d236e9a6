use Rattle.std.proofs.Common.{refl}
use Rattle.membership.proofs.Joined.{joined_same}
use Rattle.membership.proofs.numbers.Numbers.reach.Goals as goal

pub returns-then-number-lt-LARGE-clause-same : goal.returns-then-number-lt-LARGE-clause-same
returns-then-number-lt-LARGE-clause-same c k = joined_same c.reach_small.new.smalls.items c.args.self.now.larges.items c.args.self.now.smalls.items c.args.self.now.larges.items k (c.reach_small.ensures.same k) refl

pub returns-else-number-lt-LARGE-clause-same : goal.returns-else-number-lt-LARGE-clause-same
returns-else-number-lt-LARGE-clause-same c k = joined_same c.args.self.now.smalls.items c.reach_number.new.numbers.items c.args.self.now.smalls.items c.args.self.now.larges.items k refl (c.reach_number.ensures.same k)
