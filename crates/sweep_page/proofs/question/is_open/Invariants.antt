use Rattle.std.proofs.Common.{◌≡◌, false, take}
use Rattle.std.specs.List.{list_any}
use Rattle.goals.specs.Wants.{may_meet}
use Rattle.sweep_page.proofs.question.is_open.Given as goal

-- none so far may meet all
abbrev pub invariant-loop-setting : goal.invariant-loop-setting
invariant-loop-setting l = list_any (may_meet l.wants) (take l.setting-index l.settings) ≡ false
