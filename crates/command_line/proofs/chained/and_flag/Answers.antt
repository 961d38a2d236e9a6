use Rattle.std.proofs.Common.{rules}
use Rattle.command_line.proofs.chained.and_flag.Goals as goal

pub returns : goal.returns
returns c app is = c.with_flag.ensures _ (search rules)
