use Rattle.std.proofs.Common.{◌+◌, ◌-◌}
use Rattle.turns.proofs.Goes.{IsUnderWay}
use Rattle.sequential_run.proofs.in_turn.turns_in_turn.Given as goal

abbrev pub invariant-loop-from : goal.invariant-loop-from
invariant-loop-from g l = record {
  run : IsUnderWay g.Q.EventQueue.set l.course.cluster.scenario.now l.course.division.now l.from l.parts.items l.rows.items l.kept.items;
}

abbrev pub decreases-loop-from : goal.decreases-loop-from
decreases-loop-from g l = (l.last + 1) - l.from
