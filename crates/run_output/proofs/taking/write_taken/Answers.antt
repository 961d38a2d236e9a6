use Rattle.std.proofs.Common.{arith}
use Rattle.run_output.proofs.Faults.{on_err}
use Rattle.run_output.proofs.Failing.{same_failures, never_overflow, never_relay}
use Rattle.run_output.proofs.taking.write_taken.Goals as goal

pub returns-in_err-write_rows-clause-part : goal.returns-in_err-write_rows-clause-part
returns-in_err-write_rows-clause-part g c = on_err c.from_residual-in_err-write_rows.result c.in_err-write_rows.ensures.part

pub returns-in_err-write_rows-clause-overflow : goal.returns-in_err-write_rows-clause-overflow
returns-in_err-write_rows-clause-overflow g c = λ h. absurd (never_overflow _ _ c.from_residual-in_err-write_rows.ensures.1 h)

pub returns-in_err-write_rows-clause-failures : goal.returns-in_err-write_rows-clause-failures
returns-in_err-write_rows-clause-failures g c =
    let same = same_failures c.from_residual-in_err-write_rows.result _ c.from_residual-in_err-write_rows.ensures.1 in
    omega (arith, same, c.in_err-write_rows.ensures.failures)

pub returns-in_err-write_rows-clause-relay : goal.returns-in_err-write_rows-clause-relay
returns-in_err-write_rows-clause-relay g c = never_relay _ _ c.from_residual-in_err-write_rows.ensures.1
