use Rattle.std.proofs.Common.{◌≡◌, length}
use Rattle.std.specs.Prelude.{codes}
use Rattle.json.specs.Value.{value_view, members_view}
use Rattle.drive_answers.specs.Modes.{texts_of}
use Rattle.drive_answers.specs.Standing.{standing_member, standing_in}
use Rattle.drive_answers.proofs.standing.payload_in.Given as goal

-- the payload is that of the members that are left
abbrev pub invariant-loop-left : goal.invariant-loop-left
invariant-loop-left l = standing_member (codes "payload") (members_view l.left) (texts_of l.rest) ≡ standing_in (codes "payload") (value_view l.value) (texts_of l.pieces)

abbrev pub decreases-loop-left : goal.decreases-loop-left
decreases-loop-left l = length l.left
