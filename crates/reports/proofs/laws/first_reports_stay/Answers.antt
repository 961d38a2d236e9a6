use Rattle.reports.proofs.Versions.{first_report}
use Rattle.reports.proofs.laws.first_reports_stay.Goals as goal

pub returns : goal.returns
returns c = first_report
