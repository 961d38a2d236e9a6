use Rattle.std.proofs.Common.{◌*◌}
use Rattle.toml.specs.View.{view}
use Rattle.sweep_plan.specs.Sweep.{seed_count}
use Rattle.sweep.specs.Judged.{AreFirstAccepted}
use Rattle.sweep.proofs.judging.judge.Given as goal

-- the runs of the first settings are accepted
abbrev pub invariant-loop-setting : goal.invariant-loop-setting
invariant-loop-setting l = AreFirstAccepted (view l.document) l.plan (l.setting * seed_count l.plan.seeds)
