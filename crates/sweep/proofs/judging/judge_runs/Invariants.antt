use Rattle.toml.specs.View.{view}
use Rattle.sweep.specs.Judged.{AreFirstAccepted}
use Rattle.sweep.proofs.judging.judge_runs.Given as goal

-- the runs to before this number are accepted, where those before the first are
abbrev pub invariant-loop-number : goal.invariant-loop-number
invariant-loop-number l = AreFirstAccepted (view l.document) l.plan l.from → AreFirstAccepted (view l.document) l.plan l.number
