use Rattle.std.proofs.Common.{rules}
use Rattle.base.specs.Order.{key_cmp}
use Rattle.drive_world.proofs.Pends.{least_of}
use Rattle.drive_world.proofs.pending.Pending.least.Goals as goal

pub returns-in-Some-clause-least : goal.returns-in-Some-clause-least
unfolding key_cmp
returns-in-Some-clause-least c = least_of c.args.self.now.contents.entries c.in-Some.key.now c.in-Some.field-0-1.now (search rules) (search rules)
