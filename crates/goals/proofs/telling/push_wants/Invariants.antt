use Rattle.std.proofs.Common.{◌≡◌, ◌++◌, string_bytes, take}
use Rattle.std.specs.List.{flat_map}
use Rattle.goals.specs.Answers.{want_line}
use Rattle.goals.proofs.telling.push_wants.Given as goal

abbrev pub invariant-loop-want : goal.invariant-loop-want
invariant-loop-want l = string_bytes l.text ≡ string_bytes l.fn.text ++ flat_map (want_line l.settings) (take l.want-index l.wants)
