use Rattle.std.proofs.Common.{◌≡◌, fold, take}
use Rattle.toml.specs.View.{view}
use Rattle.sweep_plan.specs.Document.{with_choice}
use Rattle.sweep_plan.proofs.document.with_setting.Given as goal

abbrev pub invariant-loop-choice : goal.invariant-loop-choice
invariant-loop-choice l = view l.tree ≡ fold with_choice (view l.document) (take l.choice-index l.setting)
