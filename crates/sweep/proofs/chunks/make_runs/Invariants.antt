use Rattle.std.proofs.Common.{◌≡◌, ◌-◌, ◌≤◌}
use Rattle.toml.specs.View.{view}
use Rattle.sweep_plan.specs.Sweep.{seed_count}
use Rattle.sweep.specs.Table.{Course}
use Rattle.sweep.specs.Summaries.{HasCome}
use Rattle.sweep.proofs.chunks.make_runs.Given as goal

-- the lines of the first runs are written, what their settings keep of them is gathered, and the table has not failed
abbrev pub invariant-loop-next : goal.invariant-loop-next
invariant-loop-next g l = record {
  low : l.from ≤ l.next;
  within : l.next ≤ l.till;
  come : (course : Course) → course.key ≡ l.key → HasCome (view l.document) l.plan course (g.S.Sink.held l.fn.table) (g.G.Gather.has l.fn.gathering (seed_count l.plan.seeds)) l.from
      → HasCome (view l.document) l.plan course (g.S.Sink.held l.table) (g.G.Gather.has l.gathering (seed_count l.plan.seeds)) l.next;
  same : g.S.Sink.failed l.table ≡ g.S.Sink.failed l.fn.table;
}

abbrev pub decreases-loop-next : goal.decreases-loop-next
decreases-loop-next g l = l.till - l.next
