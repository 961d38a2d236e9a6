use Rattle.std.proofs.Common.{◌∙◌, false}
use Rattle.incidents.proofs.Columns.{with_number}
use Rattle.incidents.proofs.pairs.remove_number.Goals as goal

pub returns : goal.returns
returns c a = c.remove.ensures.updates.0 a ∙ with_number c.args.numbers.now.keys c.args.number a false
