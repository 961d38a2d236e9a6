use Rattle.std.proofs.Common.{◌∙◌, sym}
use Rattle.base.specs.Order.{key_cmp, key_total}
use Rattle.base.proofs.Trees.{get-entries}
use Rattle.drive_world.proofs.pending.Pending.content.Goals as goal

pub returns : goal.returns
unfolding key_cmp
returns c = c.get.ensures.value ∙ sym (get-entries key_total c.args.self.now.contents.entries c.args.key.now)
