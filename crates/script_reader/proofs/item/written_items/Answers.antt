use Rattle.std.proofs.lemmas.List.Elements.{All-push}
use Rattle.toml.specs.View.{view}
use Rattle.script_reader.specs.Rules.{item_of, IsRead}
use Rattle.script_reader.proofs.More.{more_made}
use Rattle.script_reader.proofs.item.written_items.Goals as goal

pub loop-item-preserved : goal.loop-item-preserved
loop-item-preserved c = record {
  items =
      more_made item_of view c.loop-item.made.items c.push.new.self.items c.read_item.result c.args.items.now c.loop-item.item-index c.item-item.result c.in_ok-push.ensures.items
      c.loop-item.invariant.items c.loop-item-test.true c.item-item.is c.read_item.ensures.item;
  read = rw c.in_ok-push.ensures.items (All-push (IsRead c.args.tick) c.loop-item.made.items c.read_item.result c.loop-item.invariant.read c.read_item.ensures.read);
}
