use Rattle.incidents.proofs.incidents.Incidents.deaths_well.Goals as goal

pub returns : goal.returns
returns c rows are = are.counts.well
