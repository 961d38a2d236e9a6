use Rattle.toml.specs.View.{view}
use Rattle.written_groups.specs.Groups.{IsGroupIn}
use Rattle.written_groups.proofs.Zip.{zip_more}
use Rattle.written_groups.proofs.groups.groups.Goals as goal

pub loop-item-preserved : goal.loop-item-preserved
loop-item-preserved c =
    zip_more (IsGroupIn c.args.tick) view c.loop-item.made.items c.push.new.self.items c.in_ok-group.field-0 c.args.items.now c.loop-item.item-index c.item-item.result
    c.in_ok-push.ensures.items c.loop-item.invariant c.loop-item-test.true c.item-item.is c.in_ok-group.ensures
