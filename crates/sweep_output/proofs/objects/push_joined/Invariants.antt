use Rattle.std.proofs.Common.{◌≡◌, ◌++◌, map, string_bytes, take}
use Rattle.std.specs.List.{join_with_byte}
use Rattle.sweep_output.proofs.objects.push_joined.Given as goal

-- the members so far are added
abbrev pub invariant-loop-place : goal.invariant-loop-place
invariant-loop-place l = string_bytes l.text ≡ string_bytes l.fn.text ++ join_with_byte 44 (map string_bytes (take l.place l.members))
