use Rattle.std.proofs.Common.{ℕ, ◌≡◌, ◌≤◌, sym, ap, ◌∙◌, arith}
use Rattle.base.specs.Logarithm.{tenth_log_of}
use Rattle.base.proofs.FineLogs.{hundred_is}
use Rattle.base.proofs.logarithm.tenth_log_to_100.Goals as goal

pub returns-then-digits-eq100-clause-value : goal.returns-then-digits-eq100-clause-value
returns-then-digits-eq100-clause-value c = sym (ap tenth_log_of c.if-digits-eq100.true ∙ hundred_is)
