use Rattle.std.proofs.Common.{◌≡◌, subst}
use Rattle.std.specs.Prelude.{IfOk}
use Rattle.reports.specs.Text.{report_text}
use Rattle.reports.proofs.reporting.report_on.Goals as goal

pub returns : goal.returns
returns c = subst (λ rows. IfOk c.report.result (λ text. text.items ≡ report_text c.args.scenario.now rows)) c.in_ok-tallies.ensures c.report.ensures
