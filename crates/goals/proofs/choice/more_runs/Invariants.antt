use Rattle.std.proofs.Common.{◌≡◌, drop}
use Rattle.goals.specs.Wants.{more_runs}
use Rattle.goals.proofs.choice.more_runs.Given as goal

-- the wants that are left give the number
abbrev pub invariant-loop-want : goal.invariant-loop-want
invariant-loop-want l = more_runs (drop l.want-index l.wants) l.setting ≡ more_runs l.wants l.setting
