use Rattle.std.proofs.Common.{sym, rules}
use Rattle.links.proofs.Served.{never_cut}
use Rattle.links.proofs.table.Links.is_cut.Goals as goal

pub returns-then-is_empty : goal.returns-then-is_empty
returns-then-is_empty c = sym (never_cut c.args.self.now.groups.items c.args.self.now.outages.entries c.args.from c.args.to c.args.at (search rules))
