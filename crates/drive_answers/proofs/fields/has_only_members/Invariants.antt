use Rattle.std.proofs.Common.{◌≡◌, drop, map}
use Rattle.json.specs.Value.{members_view}
use Rattle.drive_answers.specs.Said.{has_only_members}
use Rattle.drive_answers.proofs.fields.has_only_members.Given as goal

-- all is said of the members that are left
abbrev pub invariant-loop-member : goal.invariant-loop-member
invariant-loop-member l =
    has_only_members (map (λ n. n.now) l.names) (members_view (drop l.member-index l.members)) ≡ has_only_members (map (λ n. n.now) l.names) (members_view l.members)
