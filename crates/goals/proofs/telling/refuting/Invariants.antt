use Rattle.std.proofs.Common.{◌≡◌, take}
use Rattle.goals.specs.Answers.{refuting}
use Rattle.goals.proofs.telling.refuting.Given as goal

abbrev pub invariant-loop-setting : goal.invariant-loop-setting
invariant-loop-setting l = l.count ≡ refuting (take l.setting-index l.settings) l.want
