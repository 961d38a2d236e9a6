use Rattle.std.proofs.Common.{◌≡◌, false, take}
use Rattle.std.specs.Prelude.{◌&&◌}
use Rattle.std.specs.List.{list_any}
use Rattle.goals.specs.Wants.{is_better, meets}
use Rattle.goals.proofs.choice.is_outdone.Given as goal

-- none so far outdoes the setting
abbrev pub invariant-loop-other : goal.invariant-loop-other
invariant-loop-other l = list_any (λ other. meets l.wants other && is_better l.crashed other l.setting) (take l.other-index l.settings) ≡ false
