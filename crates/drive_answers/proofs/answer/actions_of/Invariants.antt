use Rattle.std.proofs.Common.{◌++◌, drop, List}
use Rattle.json.specs.Value.{items_view}
use Rattle.drive_answers.specs.declared.action.Action.{Action}
use Rattle.drive_answers.specs.Answer.{AreActions, NamesNobody, OneOf, SaysActions}
use Rattle.drive_answers.specs.Modes.{texts_of}
use Rattle.drive_answers.proofs.answer.actions_of.Given as goal

-- the actions so far, with those of the items that are left, are those of all
abbrev pub invariant-loop-item : goal.invariant-loop-item
invariant-loop-item l = record {
  said : (list : List Action) → SaysActions l.scenario l.member (items_view (drop l.item-index l.items)) (texts_of l.rest) list
      → SaysActions l.scenario l.member (items_view l.items) (texts_of l.pieces) (l.actions.items ++ list);
  left : AreActions (items_view (drop l.item-index l.items));
  one : OneOf (NamesNobody l.scenario l.member) (items_view (drop l.item-index l.items)) → OneOf (NamesNobody l.scenario l.member) (items_view l.items);
}
