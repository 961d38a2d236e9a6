use Rattle.std.proofs.Common.{◌≡◌, map, take}
use Rattle.std.specs.Prelude.{All}
use Rattle.toml.specs.View.{view}
use Rattle.script_reader.specs.Rules.{item_of, IsRead}
use Rattle.script_reader.proofs.item.written_items.Given as goal

abbrev pub invariant-loop-item : goal.invariant-loop-item
invariant-loop-item l = record {
  items : map item_of l.made.items ≡ map view (take l.item-index l.items);
  read : All (IsRead l.tick) l.made.items;
}
