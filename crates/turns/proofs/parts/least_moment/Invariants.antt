use Rattle.std.proofs.Common.{take}
use Rattle.turns.specs.Parts.{IsLeastMoment}
use Rattle.turns.proofs.parts.least_moment.Given as goal

abbrev pub invariant-loop-part : goal.invariant-loop-part
invariant-loop-part g l = record { least : IsLeastMoment g.Q.EventQueue.set (take l.part-index l.parts) l.least }
