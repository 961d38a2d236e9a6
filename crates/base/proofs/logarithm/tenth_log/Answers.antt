use Rattle.std.proofs.Common.{ℕ, ◌≤◌, subst, sym}
use Rattle.base.proofs.FineLogs.{tenth_is, tenth-le}
use Rattle.base.proofs.logarithm.tenth_log.Goals as goal

pub returns-clause-value : goal.returns-clause-value
returns-clause-value c = sym (tenth_is c.args.digits c.requires.at_least_10 c.requires.at_most_99)

pub returns-clause-small : goal.returns-clause-small
returns-clause-small c = subst (λ (n : ℕ). n ≤ 1000) (tenth_is c.args.digits c.requires.at_least_10 c.requires.at_most_99) (tenth-le c.args.digits)
