use Rattle.incidents.proofs.incidents.Incidents.deaths.Goals as goal

pub returns : goal.returns
returns c rows are = are.counts.deaths
