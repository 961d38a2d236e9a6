use Rattle.std.proofs.Common.{◌≡◌, ◌++◌, map, string_bytes, take}
use Rattle.sweep_output.specs.Objects.{choice_member}
use Rattle.sweep_output.proofs.objects.push_choices.Given as goal

-- the keys so far are added
abbrev pub invariant-loop-choice : goal.invariant-loop-choice
invariant-loop-choice l = map string_bytes l.members.items ≡ map string_bytes l.fn.members.items ++ map choice_member (take l.choice-index l.chosen)
