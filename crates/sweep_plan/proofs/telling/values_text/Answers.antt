use Rattle.std.proofs.Common.{◌++◌, string_bytes, ap, ◌∙◌}
use Rattle.sweep_plan.specs.Axes.{value_at}
use Rattle.sweep_plan.specs.Values.{value_text}
use Rattle.sweep_plan.specs.Sweep.{KeyValues}
use Rattle.sweep_plan.proofs.Joined.{joined_more}
use Rattle.sweep_plan.proofs.telling.values_text.Goals as goal

pub loop-place-preserved : goal.loop-place-preserved
loop-place-preserved c =
    joined_more 43 (λ (s : KeyValues). value_text (value_at s c.args.at)) c.args.axis.now c.loop-place.place c.index-axis-place.result (string_bytes c.push_value.new.text) (string_bytes c.push_plus.new.text)
    (string_bytes c.loop-place.text) c.loop-place-test.true
    (c.in_ok-push_value.ensures ∙ ap (λ v. string_bytes c.push_plus.new.text ++ value_text v) c.value_at.ensures ∙ ap (λ (s : KeyValues). string_bytes c.push_plus.new.text ++ value_text (value_at s c.args.at)) c.index-axis-place.is)
    c.in_ok-push_plus.ensures c.loop-place.invariant
