use Rattle.reports.proofs.Versions.{second_report}
use Rattle.reports.proofs.laws.second_reports_add_a_line.Goals as goal

pub returns : goal.returns
returns c = second_report
