use Rattle.std.proofs.Common.{◌∙◌, string_bytes, ap, arith}
use Rattle.sweep_plan.proofs.Told.{pushed_after, pushed_first}
use Rattle.sweep_plan.proofs.choice.choices_text.Goals as goal
use Rattle.sweep_plan.proofs.choice.choices_text.Goals.{then-place-gt0+in_ok-push_str, else-place-gt0}

pub loop-place-preserved : goal.loop-place-preserved
loop-place-preserved c =
    elim c.if-place-gt0.branch [
      | then-place-gt0+in_ok-push_str w ↦
          pushed_after c.args.setting.now c.loop-place.place _ _ _ _ c.loop-place-test.true w.if-place-gt0.true c.in_ok-push_choice.ensures
          (ap string_bytes w.text-is ∙ w.in_ok-push_str.ensures.bytes) c.loop-place.invariant
      | else-place-gt0 w ↦
          pushed_first c.args.setting.now c.loop-place.place _ _ _ _ c.loop-place-test.true (omega arith) c.in_ok-push_choice.ensures
          (ap string_bytes w.text-is) c.loop-place.invariant
    ]
