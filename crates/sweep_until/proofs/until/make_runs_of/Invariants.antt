use Rattle.std.proofs.Common.{◌≡◌, ◌-◌, ◌≤◌, List}
use Rattle.toml.specs.View.{view}
use Rattle.figures.specs.Notes.{Note}
use Rattle.sweep.specs.Table.{Course}
use Rattle.sweep_until.specs.Until.{GoesOn}
use Rattle.sweep_until.proofs.until.make_runs_of.Given as goal

-- the lines of the first runs are written, which are not enough, and the table has not failed
abbrev pub invariant-loop-next : goal.invariant-loop-next
invariant-loop-next g l = record {
  low : l.first ≤ l.next;
  within : l.next ≤ l.past;
  goes : (before : List Note) (course : Course) → course.key ≡ l.key → GoesOn (view l.document) l.plan l.width before course (g.S.Sink.held l.fn.table) l.fn.runs l.first
      → GoesOn (view l.document) l.plan l.width before course (g.S.Sink.held l.table) l.runs l.next;
  same : g.S.Sink.failed l.table ≡ g.S.Sink.failed l.fn.table;
}

abbrev pub decreases-loop-next : goal.decreases-loop-next
decreases-loop-next g l = l.past - l.next
