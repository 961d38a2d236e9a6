use Rattle.std.proofs.Common.{◌≡◌, take}
use Rattle.sweep.specs.Texts.{widths_of}
use Rattle.sweep.proofs.texts.widths.Given as goal

abbrev pub invariant-loop-swept : goal.invariant-loop-swept
invariant-loop-swept l = l.widths.items ≡ widths_of (take l.swept-index l.swept_keys)
