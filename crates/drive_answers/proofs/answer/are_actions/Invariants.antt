use Rattle.std.proofs.Common.{◌↔◌, drop}
use Rattle.json.specs.Value.{items_view}
use Rattle.drive_answers.specs.Answer.{AreActions}
use Rattle.drive_answers.proofs.answer.are_actions.Given as goal

-- all is said of the items that are left
abbrev pub invariant-loop-item : goal.invariant-loop-item
invariant-loop-item l = AreActions (items_view (drop l.item-index l.items)) ↔ AreActions (items_view l.items)
