use Rattle.std.proofs.Common.{◌≡◌, ◌++◌, replicate}
use Rattle.std.specs.String.{string_bytes}
use Rattle.presets.proofs.text.push_comment.Given as goal

-- so many spaces are added
abbrev pub invariant-loop-space : goal.invariant-loop-space
invariant-loop-space l = string_bytes l.text ≡ string_bytes l.fn.text ++ replicate l._space 32
