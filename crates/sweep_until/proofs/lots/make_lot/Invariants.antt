use Rattle.std.proofs.Common.{◌≡◌, ◌≤◌, ◌-◌, List}
use Rattle.std.specs.List.{AllZip, range_with_len}
use Rattle.toml.specs.View.{view}
use Rattle.figures.specs.Notes.{Note}
use Rattle.sweep.specs.Table.{Course, IsMadeOf}
use Rattle.sweep_until.specs.Until.{GoesOn}
use Rattle.sweep_until.proofs.lots.make_lot.Given as goal

-- the lines of the first runs are written, which are not enough, and the table has not failed
abbrev pub invariant-loop-made : goal.invariant-loop-made
invariant-loop-made g l = record {
  low : l.from ≤ l.past;
  within : l.past ≤ l.till;
  left : AllZip (IsMadeOf (view l.document) l.plan l.key) (range_with_len l.past (l.till - l.past)) l.made-iterator.rest.items;
  goes : (before : List Note) (course : Course) → course.key ≡ l.key → GoesOn (view l.document) l.plan l.width before course (g.S.Sink.held l.fn.table) l.fn.runs l.from
      → GoesOn (view l.document) l.plan l.width before course (g.S.Sink.held l.table) l.runs l.past;
  same : g.S.Sink.failed l.table ≡ g.S.Sink.failed l.fn.table;
}
