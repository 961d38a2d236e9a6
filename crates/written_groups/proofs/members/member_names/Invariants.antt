use Rattle.std.proofs.Common.{◌≡◌, map, take, string_bytes}
use Rattle.std.specs.List.{flat_map}
use Rattle.scenario.specs.Setup.{names_in}
use Rattle.written_names.specs.Roster.{group_of}
use Rattle.written_groups.proofs.members.member_names.Given as goal

-- those of the groups so far
abbrev pub invariant-loop-group : goal.invariant-loop-group
invariant-loop-group l = map string_bytes l.names.items ≡ flat_map (λ group. names_in (group_of group)) (take l.group-index l.groups)
