use Rattle.std.proofs.Common.{arith}
use Rattle.links.proofs.Pairs.{one_delay}
use Rattle.links.proofs.least.common_delay.Goals as goal

pub returns : goal.returns
returns c = one_delay c.args.links.now.groups.items c.args.links.now.link c.args.links.now.routes c.requires (omega arith)
