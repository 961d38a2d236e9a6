use Rattle.std.proofs.Common.{◌≡◌, ◌++◌, take, flat_map}
use Rattle.std.specs.String.{string_bytes}
use Rattle.scenario.specs.SetupOf.{group_of}
use Rattle.run_settings.specs.Settings.{group_entry}
use Rattle.run_settings.proofs.settings.push_groups.Given as goal

-- those so far
abbrev pub invariant-loop-group : goal.invariant-loop-group
invariant-loop-group l = string_bytes l.text ≡ string_bytes l.initial.text ++ flat_map (λ group. group_entry l.scenario (group_of group)) (take l.group-index l.groups)
