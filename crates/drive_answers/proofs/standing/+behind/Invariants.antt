use Rattle.std.proofs.Common.{◌≡◌, drop, length}
use Rattle.json.specs.Tree.{json_tokens, items_tokens, members_tokens}
use Rattle.json.specs.Value.{value_view, items_view, members_view}
use Rattle.drive_answers.specs.Modes.{texts_of}
use Rattle.drive_answers.specs.Standing.{behind_items, behind_members}
use Rattle.drive_answers.proofs.standing.+behind.Given as goal

-- as many tokens as are passed
abbrev pub decreases-behind : goal.decreases-behind
decreases-behind l = length (json_tokens (value_view l.value.now))

abbrev pub decreases-behind_items : goal.decreases-behind_items
decreases-behind_items l = length (items_tokens (items_view l.items.now.items))

abbrev pub decreases-behind_members : goal.decreases-behind_members
decreases-behind_members l = length (members_tokens (members_view l.members.now.items))

-- what is behind the items that are left is behind all
abbrev pub invariant-behind_items-loop-item : goal.invariant-behind_items-loop-item
invariant-behind_items-loop-item l =
    behind_items (items_view (drop l.item-index l.item-items)) (texts_of l.rest) ≡ behind_items (items_view l.item-items) (texts_of l.initial.rest)

abbrev pub invariant-behind_members-loop-member : goal.invariant-behind_members-loop-member
invariant-behind_members-loop-member l =
    behind_members (members_view (drop l.member-index l.member-items)) (texts_of l.rest) ≡ behind_members (members_view l.member-items) (texts_of l.initial.rest)
