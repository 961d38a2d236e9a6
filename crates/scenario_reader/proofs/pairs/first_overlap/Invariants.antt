use Rattle.scenario_reader.proofs.Sweep.{IsSwept}
use Rattle.scenario_reader.proofs.pairs.first_overlap.Given as goal

abbrev pub invariant-loop-i : goal.invariant-loop-i
invariant-loop-i l = IsSwept l.spans l.i l.longest
