use Rattle.std.proofs.Common.{◌∙◌, sym}
use Rattle.base.specs.Order.{key_cmp, key_total, key_exact}
use Rattle.base.proofs.Trees.{get-entries, map-remove}
use Rattle.drive_world.proofs.pending.Pending.take.Goals as goal

pub returns-clause-content : goal.returns-clause-content
unfolding key_cmp
returns-clause-content c = c.remove.ensures.value ∙ sym (get-entries key_total c.args.self.now.contents.entries c.args.key.now)

pub returns-clause-rest : goal.returns-clause-rest
unfolding key_cmp
returns-clause-rest c = map-remove key_total key_exact c.args.self.now.contents.entries c.remove.new.self.entries c.args.key.now c.remove.ensures.updates.0
