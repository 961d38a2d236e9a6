use Rattle.std.proofs.Common.{◌≡◌, take, string_bytes}
use Rattle.plain_text.specs.Lines.{text_of}
use Rattle.plain_text.proofs.text.plain_text.Given as goal

-- the lines so far are there
abbrev pub invariant-loop-line : goal.invariant-loop-line
invariant-loop-line l = string_bytes l.text ≡ text_of (take l.line-index l.lines)
