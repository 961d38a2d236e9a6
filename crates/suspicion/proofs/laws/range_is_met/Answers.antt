use Rattle.std.proofs.Common.{ap, not}
use Rattle.suspicion.proofs.Timeouts.{timeout-alone, timeout-enough, timeout-off}
use Rattle.suspicion.proofs.laws.range_is_met.Goals as goal

pub returns-clause-alone : goal.returns-clause-alone
returns-clause-alone c = timeout-alone

pub returns-clause-enough : goal.returns-clause-enough
returns-clause-enough c = timeout-enough

pub returns-clause-off : goal.returns-clause-off
returns-clause-off c terms n accusers off = timeout-off terms n accusers (ap not off)
