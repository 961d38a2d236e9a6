use Rattle.std.proofs.Common.{◌≡◌, map, take}
use Rattle.goals.specs.Front.{is_on_front}
use Rattle.sweep_output.proofs.paging.front_of.Given as goal

abbrev pub invariant-loop-setting : goal.invariant-loop-setting
invariant-loop-setting l = l.front.items ≡ map (λ setting. is_on_front setting l.settings) (take l.setting-index l.settings)
