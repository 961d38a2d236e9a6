use Rattle.std.specs.Result.{OnOk}
use Rattle.parallel_run.proofs.WritingTurns.{IsWriting}
use Rattle.std.proofs.Common.{length}
use Rattle.parallel_run.proofs.writer.write_all.Given as goal

abbrev pub invariant-loop : goal.invariant-loop
invariant-loop g l = record {
  goes_on : (goal.iterator-loop g).can_next l.iterator' × (goal.iterator-loop g).is_finite l.iterator';
  writing : IsWriting g.K.OfRun.basis l.scenario (length l.takers.items) l.since (g.T.RowSink.held l.fn.place) (g.T.RowSink.held l.place) (g.T.RowSink.failed l.fn.place) (g.T.RowSink.failed l.place) l.tallies l.so_far;
  gathered : OnOk l.so_far (g.T.RowSink.gathered l.place l.scenario l.tallies);
}
