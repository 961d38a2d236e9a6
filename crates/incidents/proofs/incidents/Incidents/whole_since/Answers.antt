use Rattle.incidents.proofs.incidents.Incidents.whole_since.Goals as goal

pub returns : goal.returns
returns c rows are = c.since.ensures c.args.self.now.cluster rows are.whole
