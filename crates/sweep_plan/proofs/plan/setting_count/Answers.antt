use Rattle.std.proofs.Common.{◌-◌, ◌^◌, ap, ◌∙◌, arith}
use Rattle.sweep_plan.specs.Sweep.{choice_count}
use Rattle.sweep_plan.proofs.Counts.{counted_more}
use Rattle.sweep_plan.proofs.plan.setting_count.Goals as goal

pub loop-swept-preserved : goal.loop-swept-preserved
loop-swept-preserved c =
    record {
      so_far = counted_more c.args.swept_keys.now c.loop-swept.swept-index _ c.loop-swept.settings (2 ^ 64 - 1) c.choice_count.result c.saturating_mul-settings.result c.loop-swept-test.true
          (c.choice_count.ensures ∙ ap choice_count c.swept-item.is) c.saturating_mul-settings.ensures c.loop-swept.invariant.so_far;
      fits = omega arith;
    }
