use Rattle.std.proofs.Common.{◌∙◌}
use Rattle.incident_figures.proofs.Gathering.{same_run}
use Rattle.incident_figures.proofs.run.RunIncidents.of.Goals as goal

pub returns : goal.returns
returns c s is = same_run _ _ _ _ _ _ _ _ _ _ is.alarms is.deaths is.well c.rows_of.ensures (c.ticks_of.ensures ∙ is.whole)
