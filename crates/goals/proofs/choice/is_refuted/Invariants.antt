use Rattle.std.proofs.Common.{◌≡◌, false, take}
use Rattle.std.specs.List.{list_any}
use Rattle.goals.specs.Wants.{refutes}
use Rattle.goals.proofs.choice.is_refuted.Given as goal

-- none so far is refuted
abbrev pub invariant-loop-want : goal.invariant-loop-want
invariant-loop-want l = list_any (λ want. refutes want.statistic want.most l.setting) (take l.want-index l.wants) ≡ false
