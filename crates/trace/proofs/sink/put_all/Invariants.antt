use Rattle.std.proofs.Common.{◌≡◌, ◌++◌, ℕ, List, length}
use Rattle.std.specs.Io.KnownBytes.{Appends}
use Rattle.trace.proofs.sink.put_all.Given as goal

-- what was put and what is left are the bytes, and the sink has not failed
abbrev pub invariant-loop-left : goal.invariant-loop-left
invariant-loop-left g l =
    record {
      front : List ℕ;
      whole : front ++ l.left ≡ l.fn.bytes;
      appends : Appends (g.S.Sink.held l.fn.sink) (g.S.Sink.held l.sink) front;
      same : g.S.Sink.failed l.sink ≡ g.S.Sink.failed l.fn.sink;
    }

abbrev pub decreases-loop-left : goal.decreases-loop-left
decreases-loop-left g l = length l.left
