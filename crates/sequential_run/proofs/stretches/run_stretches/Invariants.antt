use Rattle.std.proofs.Common.{◌≡◌, ℕ, ◌+◌, ◌-◌, ◌≤◌, ◌^◌, List, [], length, Option, Ok}
use Rattle.windows.specs.WorldOf.{world_of}
use Rattle.windows.specs.Window.{IsConsistentPart}
use Rattle.run_output.specs.Written.{HasWritten}
use Rattle.sequential_run.proofs.Whole.{HasComeTo}
use Rattle.sequential_run.proofs.stretches.run_stretches.Given as goal

abbrev pub invariant-loop-from : goal.invariant-loop-from
invariant-loop-from g l = record {
  consistent : IsConsistentPart l.cluster.scenario.now (world_of g.Q.EventQueue.set l.part);
  come : HasComeTo l.cluster.scenario.now l.from (world_of g.Q.EventQueue.set l.part) l.tallies;
  written : (first : Option (List ℕ)) → HasWritten {T = Unit {0}} l.cluster.scenario.now [] first (g.T.RowSink.held l.fn.place) [] (Ok (tt {0}))
      → HasWritten {T = Unit {0}} l.cluster.scenario.now l.tallies first (g.T.RowSink.held l.place) l.tallies (Ok (tt {0}));
  gathered : g.T.RowSink.gathered l.place l.cluster.scenario.now l.tallies;
  empty : l.room.items ≡ [];
  few : length l.tallies ≤ 2 ^ 63;
  unfailed : g.T.RowSink.failed l.place ≡ g.T.RowSink.failed l.fn.place;
}

abbrev pub decreases-loop-from : goal.decreases-loop-from
decreases-loop-from g l = (l.last + 1) - l.from
