use Rattle.std.proofs.Common.{take}
use Rattle.sweep_until.specs.Kept.{AreKept}
use Rattle.sweep_until.proofs.until.kept_of.Given as goal

-- the first runs are kept
abbrev pub invariant-loop-note : goal.invariant-loop-note
invariant-loop-note l = AreKept (take l.note-index l.before) l.runs
