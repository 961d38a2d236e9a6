-- What the observer keeps of the rows so far.
use Rattle.std.specs.Prelude.{◌+◌, ◌≤◌, ◌^◌, false, List}
use Rattle.trace.specs.declared.row.Row.{Row}
use Rattle.incidents.specs.declared.incidents.Incidents.{Incidents}
use Rattle.incidents.specs.Kept.{count_of, AreLivesOf, AreDoubtsOf, AreCountsOf}
use Rattle.incidents.specs.Missed.{IsWholenessOf}
use Rattle.incidents.specs.Lines.{AreLinesOf}

-- what is kept is what these rows tell
pub record AreIncidentsOf (incidents : Incidents) (rows : List Row) : Type 0 where
  pub few : count_of incidents.cluster ≤ 2 ^ 16
  pub lives : AreLivesOf incidents.lives (count_of incidents.cluster) rows
  pub doubts : AreDoubtsOf incidents.doubts (count_of incidents.cluster) rows
  pub counts : AreCountsOf incidents.counts incidents.cluster rows
  pub whole : IsWholenessOf incidents.whole incidents.cluster rows
  pub lines : AreLinesOf incidents.lines (count_of incidents.cluster) rows

-- what is kept, with one row more that tells nothing
abbrev pub passed : Incidents → Incidents
passed incidents = record incidents {
  counts = record incidents.counts { rows = incidents.counts.rows + 1 };
  whole = record incidents.whole { is_beginning = false };
}
