use Rattle.std.proofs.Common.{◌↔◌, ℕ, take}
use Rattle.lookahead_windows.specs.Starts.{IsUpTo}
use Rattle.turns.specs.Parts.{NonePendsBefore}
use Rattle.parallel_run.proofs.run.first_pending.Given as goal

abbrev pub invariant-loop-part : goal.invariant-loop-part
invariant-loop-part g l = record { first : (t : ℕ) → NonePendsBefore g.Q.EventQueue.set (take l.part-index l.parts) t ↔ IsUpTo l.first t }
