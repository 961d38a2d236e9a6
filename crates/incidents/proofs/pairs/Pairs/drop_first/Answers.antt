use Rattle.incidents.specs.Pairs.{has}
use Rattle.incidents.proofs.Columns.{without_none}
use Rattle.incidents.proofs.pairs.Pairs.drop_first.Goals as goal

pub returns-then-not-may_have-clause-dropped : goal.returns-then-not-may_have-clause-dropped
returns-then-not-may_have-clause-dropped c = without_none c.args.first (has c.args.self.now) (c.requires c.if-not-may_have.true)
