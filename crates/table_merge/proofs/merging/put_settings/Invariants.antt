use Rattle.std.proofs.Common.{◌≡◌, map}
use Rattle.table_merge.specs.Seeds.{in_turn}
use Rattle.table_merge.specs.Lines.{PutsLines}
use Rattle.table_merge.specs.Tables.{starts_in}
use Rattle.table_merge.proofs.merging.put_settings.Given as goal

-- the first settings are put, and the sink has not failed
abbrev pub invariant-loop-number : goal.invariant-loop-number
invariant-loop-number g l = record {
  so : PutsLines l.key (in_turn l.number (map starts_in l.tables)) l.fn.gathering l.gathering (g.S.Sink.held l.fn.sink) (g.S.Sink.held l.sink);
  same : g.S.Sink.failed l.sink ≡ g.S.Sink.failed l.fn.sink;
}
