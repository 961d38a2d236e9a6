use Rattle.std.proofs.Common.{◌++◌, string_bytes, ap, ◌∙◌}
use Rattle.sweep_plan.specs.Keys.{key_name}
use Rattle.sweep_plan.specs.Sweep.{KeyValues}
use Rattle.sweep_plan.proofs.Joined.{joined_more}
use Rattle.sweep_plan.proofs.telling.names_text.Goals as goal

pub loop-place-preserved : goal.loop-place-preserved
loop-place-preserved c =
    joined_more 43 (λ (s : KeyValues). key_name s.key) c.args.axis.now c.loop-place.place c.index-axis-place.result (string_bytes c.push_name.new.text) (string_bytes c.push_plus.new.text) (string_bytes c.loop-place.text)
    c.loop-place-test.true (c.in_ok-push_name.ensures ∙ ap (λ (s : KeyValues). string_bytes c.push_plus.new.text ++ key_name s.key) c.index-axis-place.is) c.in_ok-push_plus.ensures c.loop-place.invariant
