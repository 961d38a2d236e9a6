-- What came of a run's rows.
use Rattle.std.specs.Prelude.{List, All, Result, Ok, Err}
use Rattle.base.specs.declared.fault.Fault.{Fault}
use Rattle.scenario.specs.Setup.{Setup}
use Rattle.trace.specs.declared.row.Row.{Row}
use Rattle.trace.specs.Text.{NamesMembers}
use Rattle.series.specs.Series.{AreSeriesOf}
use Rattle.member_laws.specs.Runs.{IsRunOf}
use Rattle.page_runs.specs.declared.page_data.PageData.{PageData}

-- the rows of the scenario's run were tallied, and these are the series of its page
pub record TalliesRun (s : Setup) (page_data : PageData) : Type 0 where
  pub run : IsRunOf s page_data.tallies
  pub named : All (NamesMembers s) page_data.tallies
  pub gathered : AreSeriesOf s page_data.gathered.series page_data.tallies

-- the rows that were tallied, or why there are none
abbrev pub rows_tallied : Result PageData Fault → Result (List Row) Fault
rows_tallied (Ok page_data) = Ok page_data.tallies
rows_tallied (Err cause) = Err cause
