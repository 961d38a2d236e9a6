use Rattle.std.proofs.Common.{◌≡◌, drop}
use Rattle.json.specs.Value.{members_view}
use Rattle.drive_answers.specs.Standing.{is_named}
use Rattle.drive_answers.proofs.standing.is_named.Given as goal

-- all is said of the members that are left
abbrev pub invariant-loop-member : goal.invariant-loop-member
invariant-loop-member l = is_named l.name (members_view (drop l.member-index l.members)) ≡ is_named l.name (members_view l.members)
