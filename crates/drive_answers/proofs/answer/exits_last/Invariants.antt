use Rattle.std.proofs.Common.{◌≡◌, ◌+◌, ◌↔◌, drop, length}
use Rattle.json.specs.Value.{items_view}
use Rattle.drive_answers.specs.Answer.{ExitsLast}
use Rattle.drive_answers.proofs.answer.exits_last.Given as goal

-- all is said of the items that are left, which are counted
abbrev pub invariant-loop-item : goal.invariant-loop-item
invariant-loop-item l = record {
  all : ExitsLast l.exits (items_view (drop l.item-index l.items)) ↔ ExitsLast l.exits (items_view l.items);
  count : l.left + l.item-index ≡ length l.items;
}
