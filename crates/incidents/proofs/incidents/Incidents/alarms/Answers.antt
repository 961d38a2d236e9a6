use Rattle.incidents.proofs.incidents.Incidents.alarms.Goals as goal

pub returns : goal.returns
returns c rows are = are.counts.alarms
