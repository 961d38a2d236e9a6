-- What version 4 of the format asks of a run besides.
use Rattle.std.specs.Prelude.{List, map}
use Rattle.trace.specs.declared.row.Row.{Row}
use Rattle.incidents.specs.Observed.{AreIncidentsOf}
use Rattle.reports.specs.declared.watch.Watch.{Watch}
use Rattle.reports.specs.Held.{AreRevivalsOf}
use Rattle.reports.specs.Absences.{with_left, with_others_left}
use Rattle.reports.specs.Away.{AreAbsencesOf}

-- what is kept is what these rows report
pub record IsWatchOf (watch : Watch) (rows : List Row) : Type 0 where
  pub absences : AreAbsencesOf watch.absences (map with_others_left rows)
  pub revivals : AreRevivalsOf watch.revivals (map with_left rows)
  pub incidents : AreIncidentsOf watch.incidents rows
