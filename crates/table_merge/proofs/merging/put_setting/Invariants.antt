use Rattle.std.proofs.Common.{◌≡◌, map, take}
use Rattle.std.specs.List.{flat_map}
use Rattle.table_merge.specs.Seeds.{of_setting}
use Rattle.table_merge.specs.Lines.{PutsLines}
use Rattle.table_merge.specs.Tables.{starts_in}
use Rattle.table_merge.proofs.merging.put_setting.Given as goal

-- the lines of the first tables are put, and the sink has not failed
abbrev pub invariant-loop-table : goal.invariant-loop-table
invariant-loop-table g l = record {
  so : PutsLines l.key (flat_map (of_setting l.number) (map starts_in (take l.table-index l.tables))) l.fn.gathering l.gathering (g.S.Sink.held l.fn.sink) (g.S.Sink.held l.sink);
  same : g.S.Sink.failed l.sink ≡ g.S.Sink.failed l.fn.sink;
}
