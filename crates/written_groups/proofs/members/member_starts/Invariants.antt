use Rattle.std.proofs.Common.{◌≡◌, take, replicate}
use Rattle.std.specs.List.{flat_map}
use Rattle.written_groups.proofs.members.member_starts.Given as goal

-- those of the groups so far
abbrev pub invariant-loop-group : goal.invariant-loop-group
invariant-loop-group l = l.starts.items ≡ flat_map (λ group. replicate group.count group.start) (take l.group-index l.groups)
