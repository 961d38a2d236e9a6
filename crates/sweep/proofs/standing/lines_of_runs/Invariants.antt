use Rattle.sweep.specs.Sums.{BeginsWithLines}
use Rattle.sweep.proofs.standing.lines_of_runs.Given as goal

-- the first lines are those of runs
abbrev pub invariant-loop-count : goal.invariant-loop-count
invariant-loop-count l = BeginsWithLines l.key l.plan l.first l.text l.left l.count
