use Rattle.std.proofs.Common.{string_bytes, take}
use Rattle.diagnostic_text.specs.Told.{AreBlocks}
use Rattle.diagnostic_text.proofs.as_lines.blocks.Given as goal

abbrev pub invariant-loop-diagnostic : goal.invariant-loop-diagnostic
invariant-loop-diagnostic l = AreBlocks (take l.diagnostic-index l.shown) (string_bytes l.lines)
