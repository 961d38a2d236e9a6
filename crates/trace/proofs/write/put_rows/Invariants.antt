use Rattle.std.proofs.Common.{◌≡◌, ◌≤◌, ◌++◌, ℕ, List, length}
use Rattle.std.specs.Prelude.{All}
use Rattle.std.specs.Io.KnownBytes.{Appends}
use Rattle.trace.specs.Text.{rows_text, NamesMembers}
use Rattle.trace.proofs.write.put_rows.Given as goal

-- the text that was put and that of the rows left are the whole, the sink has not failed, and the room is as long as ever
abbrev pub invariant-loop-left : goal.invariant-loop-left
invariant-loop-left g l =
    record {
      front : List ℕ;
      whole : front ++ rows_text l.scenario l.left ≡ rows_text l.scenario l.fn.rows;
      appends : Appends (g.S.Sink.held l.fn.sink) (g.S.Sink.held l.sink) front;
      same : g.S.Sink.failed l.sink ≡ g.S.Sink.failed l.fn.sink;
      named : All (NamesMembers l.scenario) l.left;
      fewer : length l.left ≤ length l.fn.rows;
      room : length l.room ≡ length l.fn.room;
    }

abbrev pub decreases-loop-left : goal.decreases-loop-left
decreases-loop-left g l = length l.left
