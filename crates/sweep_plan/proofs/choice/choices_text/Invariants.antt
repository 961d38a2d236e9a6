use Rattle.std.proofs.Common.{◌≡◌, string_bytes, take}
use Rattle.sweep_plan.specs.Settings.{choices_text}
use Rattle.sweep_plan.proofs.choice.choices_text.Given as goal

abbrev pub invariant-loop-place : goal.invariant-loop-place
invariant-loop-place l = string_bytes l.text ≡ choices_text (take l.place l.setting)
