use Rattle.std.proofs.Common.{drop}
use Rattle.sweep_plan.proofs.Choices.{AtPlace}
use Rattle.sweep_plan.proofs.plan.choices.Given as goal

abbrev pub invariant-loop-swept : goal.invariant-loop-swept
invariant-loop-swept l = AtPlace l.swept_keys l.place l.setting.items (drop l.swept-index l.swept_keys) l.turn.at l.turn.below l.turn.left
