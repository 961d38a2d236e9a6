-- What is known of a run that a page shows.
use Rattle.std.specs.Prelude.{All}
use Rattle.trace.specs.Text.{NamesMembers}
use Rattle.series.specs.Series.{AreSeriesOf}
use Rattle.member_timelines.specs.declared.run.Run.{Run}

-- what was gathered is what the tallied rows say, and these name members of the cluster alone
pub record IsTold (run : Run) : Type 0 where
  pub gathered : AreSeriesOf run.scenario.now run.series.now run.tallies.now
  pub named : All (NamesMembers run.scenario.now) run.tallies.now
