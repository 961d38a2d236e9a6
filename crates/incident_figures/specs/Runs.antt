-- What a sweep's table has of the incidents of a run.
use Rattle.std.specs.Prelude.{ℕ, Option, Some, List, [], ◌∷◌, codes}
use Rattle.scenario.specs.Setup.{Setup, member_count}
use Rattle.trace.specs.declared.row.What.TheVariants as what
use Rattle.trace.specs.declared.row.Row.{Row}
use Rattle.trace_rows.specs.Rows.{count_of}
use Rattle.incidents.specs.Cluster.{founders_of, troubles_of, reach_of}
use Rattle.incidents.specs.Incidents.{alarms, deaths, deaths_well}
use Rattle.incidents.specs.Whole.{whole_since}
use Rattle.incident_figures.specs.declared.run.RunIncidents.{RunIncidents}

-- the incidents of a run of a scenario that has these rows
abbrev pub incidents_of : Setup → List Row → RunIncidents
incidents_of s rows =
    record {
      alarms = alarms (member_count s) rows;
      deaths = deaths (member_count s) rows;
      deaths_well = deaths_well (member_count s) (troubles_of s) (reach_of s) rows;
      restarts = count_of what.Restart rows;
      whole = whole_since (founders_of s) rows;
    }

-- the names of their columns
abbrev pub incident_names : List (List ℕ)
incident_names = codes "alarms" ∷ codes "deaths" ∷ codes "deaths_well" ∷ codes "restarts" ∷ codes "whole" ∷ []

-- the figures in that order
abbrev pub incidents_in_order : RunIncidents → List (Option ℕ)
incidents_in_order run = Some run.alarms ∷ Some run.deaths ∷ Some run.deaths_well ∷ Some run.restarts ∷ run.whole ∷ []
