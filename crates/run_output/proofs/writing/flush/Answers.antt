-- a failed flush is counted
use Rattle.std.proofs.Common.{arith}
use Rattle.run_output.proofs.Failing.{one_failure}
use Rattle.run_output.proofs.writing.flush.Goals as goal

pub returns-in_err-flush-clause-failures : goal.returns-in_err-flush-clause-failures
returns-in_err-flush-clause-failures g c =
    let one = one_failure c.from_residual.result c.from_residual.ensures.1 in
    omega (arith, one, c.in_err-flush.ensures.failures)
