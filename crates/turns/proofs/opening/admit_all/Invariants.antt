use Rattle.std.proofs.Common.{ℕ, ◌<◌}
use Rattle.windows.specs.Admitting.{opened_below}
use Rattle.lookahead.specs.Between.{part_number}
use Rattle.turns.specs.Parts.{StandFor}
use Rattle.turns.proofs.opening.admit_all.Given as goal

abbrev pub invariant-loop-number : goal.invariant-loop-number
invariant-loop-number g l = record {
  opened : StandFor g.Q.EventQueue.set l.division l.parts.items (opened_below l.scenario l.number);
  below : (m : ℕ) → m < l.number → part_number l.division m < l.division.parts;
}
