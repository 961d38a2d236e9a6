use Rattle.std.proofs.Common.{◌≡◌, ℕ, List, map, take}
use Rattle.std.specs.Borrow.{Bor}
use Rattle.table_merge.specs.Lines.{PutsLines}
use Rattle.table_merge.proofs.merging.put_lines.Given as goal

-- the first lines are put, and the sink has not failed
abbrev pub invariant-loop-start : goal.invariant-loop-start
invariant-loop-start g l = record {
  so : PutsLines l.key (map (λ (start : Bor (List ℕ)). start.now) (take l.start-index l.starts)) l.fn.gathering l.gathering (g.S.Sink.held l.fn.sink) (g.S.Sink.held l.sink);
  same : g.S.Sink.failed l.sink ≡ g.S.Sink.failed l.fn.sink;
}
