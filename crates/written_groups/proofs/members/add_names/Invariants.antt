use Rattle.std.proofs.Common.{◌≡◌, ◌++◌, map, string_bytes}
use Rattle.scenario.specs.Setup.{names_below}
use Rattle.written_groups.proofs.members.add_names.Given as goal

abbrev pub invariant-loop-index : goal.invariant-loop-index
invariant-loop-index l = map string_bytes l.names.items ≡ map string_bytes l.initial.names.items ++ names_below l.group l.index-counter
