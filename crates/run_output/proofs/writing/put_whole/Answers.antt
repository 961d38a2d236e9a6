use Rattle.std.proofs.Common.{arith}
use Rattle.run_output.proofs.Faults.{on_err}
use Rattle.run_output.proofs.Failing.{one_failure}
use Rattle.run_output.proofs.writing.put_whole.Goals as goal

pub returns-in_err-put_all-clause-part : goal.returns-in_err-put_all-clause-part
returns-in_err-put_all-clause-part g c = on_err c.from_residual.result c.in_err-put_all.ensures.part

pub returns-in_err-put_all-clause-failures : goal.returns-in_err-put_all-clause-failures
returns-in_err-put_all-clause-failures g c =
    let one = one_failure c.from_residual.result c.from_residual.ensures.1 in
    omega (arith, one, c.in_err-put_all.ensures.failures)
