use Rattle.std.proofs.Common.{◌≡◌, take}
use Rattle.goals.specs.Answers.{showing}
use Rattle.goals.proofs.telling.showing.Given as goal

abbrev pub invariant-loop-setting : goal.invariant-loop-setting
invariant-loop-setting l = l.count ≡ showing (take l.setting-index l.settings) l.want
