use Rattle.std.proofs.Common.{rules}
use Rattle.command_line.proofs.chained.and_option.Goals as goal

pub returns : goal.returns
returns c app is = c.with_option.ensures _ (search rules)
