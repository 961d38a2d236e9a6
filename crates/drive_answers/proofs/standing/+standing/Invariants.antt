use Rattle.std.proofs.Common.{◌≡◌, ◌+◌, ◌≤◌, ◌++◌, drop, length}
use Rattle.json.specs.Tree.{json_tokens, items_tokens, members_tokens}
use Rattle.json.specs.Value.{value_view, items_view, members_view}
use Rattle.drive_answers.specs.Modes.{texts_of}
use Rattle.drive_answers.specs.Standing.{standing_items, standing_members}
use Rattle.drive_answers.proofs.standing.+standing.Given as goal

-- as many tokens as are written
abbrev pub decreases-push_standing : goal.decreases-push_standing
decreases-push_standing l = length (json_tokens (value_view l.value.now))

abbrev pub decreases-push_items : goal.decreases-push_items
decreases-push_items l = length (items_tokens (items_view l.items.now.items))

abbrev pub decreases-push_members : goal.decreases-push_members
decreases-push_members l = length (members_tokens (members_view l.members.now.items))

abbrev pub decreases-push_member : goal.decreases-push_member
decreases-push_member l = length (json_tokens (value_view l.member.now.1)) + 1

-- what is written, with what is left, is the whole
abbrev pub invariant-push_items-loop-item : goal.invariant-push_items-loop-item
invariant-push_items-loop-item l =
    l.text.items ++ standing_items l.later (items_view (drop l.item-index l.item-items)) (texts_of l.rest)
    ≡ l.initial.text.items ++ standing_items l.initial.later (items_view l.item-items) (texts_of l.initial.rest)

abbrev pub invariant-push_members-loop-left : goal.invariant-push_members-loop-left
invariant-push_members-loop-left l = record {
  all : l.text.items ++ standing_members l.later (members_view l.left) (texts_of l.rest)
      ≡ l.initial.text.items ++ standing_members l.initial.later (members_view l.initial.left) (texts_of l.initial.rest);
  left : length (members_tokens (members_view l.left)) ≤ length (members_tokens (members_view l.initial.left));
}

abbrev pub decreases-push_members-loop-left : goal.decreases-push_members-loop-left
decreases-push_members-loop-left l = length l.left
