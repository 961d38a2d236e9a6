use Rattle.std.proofs.Common.{Err, arith}
use Rattle.base.specs.declared.fault.Fault.TheVariants as fault
use Rattle.run_output.proofs.Failing.{same_failures}
use Rattle.scenario_files.proofs.Held.{handed_on}
use Rattle.drive_command.proofs.Sinks.{early_trace, unflushed}
use Rattle.drive_command.proofs.playing.write_trace.Goals as goal

pub returns-in_err-tallies-clause-early : goal.returns-in_err-tallies-clause-early
returns-in_err-tallies-clause-early g c =
    handed_on _ _ _ c.from_residual.ensures.1 (early_trace c.args.setting.now.scenario.now _ _ _ _ _ c.in_err-tallies.ensures.early)

pub returns-in-Err-clause-early : goal.returns-in-Err-clause-early
returns-in-Err-clause-early g c =
    unflushed c.args.setting.now.scenario.now fault.Write c.in_ok-tallies.tallies _ _ _ _ _ c.in_ok-tallies.ensures.done c.in_ok-tallies.ensures.whole c.flush.ensures.same

pub returns-in-Err-clause-failures : goal.returns-in-Err-clause-failures
returns-in-Err-clause-failures g c =
    let told = same_failures {T = Unit {0}} (Err c.from.result) c.in-Err.error c.from.ensures in
    omega (arith, c.requires.unfailed, c.in_ok-tallies.ensures.failures, c.in-Err.ensures.failures, told)
