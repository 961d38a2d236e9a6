use Rattle.std.proofs.Common.{◌≡◌, ◌++◌}
use Rattle.std.specs.List.{flat_map}
use Rattle.std.specs.String.{string_bytes}
use Rattle.drawing.specs.Escaped.{escaped_char}
use Rattle.drawing.proofs.escape.push_escaped.Given as goal

-- the characters so far, escaped
abbrev pub invariant-loop-c : goal.invariant-loop-c
invariant-loop-c l = string_bytes l.text ≡ string_bytes l.initial.text ++ flat_map escaped_char l.yielded
