use Rattle.std.proofs.Common.{◌≡◌, ◌≤◌, ◌-◌, ◌+◌, length}
use Rattle.std.specs.List.{AllZip, range_with_len}
use Rattle.toml.specs.View.{view}
use Rattle.sweep_plan.specs.Sweep.{seed_count}
use Rattle.sweep.specs.Table.{Course, IsMadeOf}
use Rattle.sweep.specs.Summaries.{HasCome}
use Rattle.sweep.proofs.chunks.make_some.Given as goal

-- the lines of the first runs are written, what their settings keep of them is gathered, and the table has not failed
abbrev pub invariant-loop-made : goal.invariant-loop-made
invariant-loop-made g l = record {
  within : l.from + length l.yielded ≤ l.till;
  left : AllZip (IsMadeOf (view l.document) l.plan l.key) (range_with_len (l.from + length l.yielded) (l.till - (l.from + length l.yielded))) l.made-iterator.rest.items;
  come : (course : Course) → course.key ≡ l.key → HasCome (view l.document) l.plan course (g.S.Sink.held l.fn.table) (g.G.Gather.has l.fn.gathering (seed_count l.plan.seeds)) l.from
      → HasCome (view l.document) l.plan course (g.S.Sink.held l.table) (g.G.Gather.has l.gathering (seed_count l.plan.seeds)) (l.from + length l.yielded);
  same : g.S.Sink.failed l.table ≡ g.S.Sink.failed l.fn.table;
}
