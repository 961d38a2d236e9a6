use Rattle.std.proofs.Common.{arith}
use Rattle.trace.proofs.Beginnings.{beginning-none, Keeps-same}
use Rattle.reports.specs.Text.{report_text}
use Rattle.run_output.proofs.Faults.{on_err}
use Rattle.run_output.proofs.Failing.{no_failure}
use Rattle.run_output.proofs.writing.write_report.Goals as goal

pub returns-in_err-text-clause-part : goal.returns-in_err-text-clause-part
returns-in_err-text-clause-part g c = on_err c.from_residual.result (beginning-none _ _ (report_text c.args.scenario.now c.args.rows.now) (Keeps-same _))

pub returns-in_err-text-clause-failures : goal.returns-in_err-text-clause-failures
returns-in_err-text-clause-failures g c = let none = no_failure c.from_residual.result c.from_residual.ensures.1 in omega (arith, none)
