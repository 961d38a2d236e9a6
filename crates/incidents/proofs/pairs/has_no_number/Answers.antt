use Rattle.incidents.proofs.Columns.{empty_has_none, other_has_some}
use Rattle.incidents.proofs.pairs.has_no_number.Goals as goal

pub returns-clause-none : goal.returns-clause-none
returns-clause-none c = empty_has_none c.is_empty.result c.args.numbers.now.keys c.is_empty.ensures

pub returns-clause-some : goal.returns-clause-some
returns-clause-some c = other_has_some c.is_empty.result c.args.numbers.now.keys c.is_empty.ensures
