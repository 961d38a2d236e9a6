use Rattle.std.proofs.Common.{rules}
use Rattle.command_line.proofs.chained.and_required.Goals as goal

pub returns : goal.returns
returns c app is = c.with_required.ensures _ (search rules)
