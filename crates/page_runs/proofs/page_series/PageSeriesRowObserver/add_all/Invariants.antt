use Rattle.std.proofs.Common.{List, ◌++◌, take}
use Rattle.trace.specs.declared.row.Row.{Row}
use Rattle.series.specs.Series.{AreSeriesOf}
use Rattle.page_runs.proofs.page_series.PageSeriesRowObserver.add_all.Given as goal

-- the rows so far are gathered
abbrev pub invariant-loop-row : goal.invariant-loop-row
invariant-loop-row l = (before : List Row) → AreSeriesOf l.scenario l.fn.self.series before → AreSeriesOf l.scenario l.self.series (before ++ take l.row-index l.rows)
