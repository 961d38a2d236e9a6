use Rattle.std.proofs.Common.{arith}
use Rattle.run_output.proofs.Failing.{same_failures, never_relay}
use Rattle.run_output.proofs.Streaming.{not_begun}
use Rattle.run_output.proofs.writing.begin_trace.Goals as goal

pub returns-in_err-write_head-clause-written : goal.returns-in_err-write_head-clause-written
returns-in_err-write_head-clause-written g c = λ s. not_begun s _ _ c.from_residual.result _ c.from_residual.ensures.1 c.in_err-write_head.ensures.part

pub returns-in_err-write_head-clause-failures : goal.returns-in_err-write_head-clause-failures
returns-in_err-write_head-clause-failures g c =
    let same = same_failures c.from_residual.result _ c.from_residual.ensures.1 in
    omega (arith, same, c.in_err-write_head.ensures.failures)

pub returns-in_err-write_head-clause-relay : goal.returns-in_err-write_head-clause-relay
returns-in_err-write_head-clause-relay g c = never_relay _ _ c.from_residual.ensures.1
