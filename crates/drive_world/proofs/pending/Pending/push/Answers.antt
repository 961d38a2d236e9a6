use Rattle.base.specs.Order.{key_cmp, key_total, key_exact}
use Rattle.base.proofs.Trees.{map-insert}
use Rattle.drive_world.proofs.pending.Pending.push.Goals as goal

pub returns-in-Ok : goal.returns-in-Ok
unfolding key_cmp
returns-in-Ok c = map-insert key_total key_exact c.args.self.now.contents.entries c.insert.new.self.entries c.args.event.key c.args.event.content c.in-Ok.ensures.updates.0
