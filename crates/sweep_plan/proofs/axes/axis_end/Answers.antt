use Rattle.std.proofs.Common.{sym, ◌∙◌}
use Rattle.sweep_plan.proofs.Grouped.{axis_at, left_goes, none_goes}
use Rattle.sweep_plan.proofs.axes.axis_end.Goals as goal

pub returns-after-loop-end-clause-axis : goal.returns-after-loop-end-clause-axis
returns-after-loop-end-clause-axis c =
    axis_at c.args.swept_keys.now c.args.from c.loop-end.end c.requires c.loop-end.invariant.past c.loop-end.invariant.follow (none_goes c.args.swept_keys.now c.loop-end.end c.loop-end-test.false)

pub returns-else-is_together-clause-axis : goal.returns-else-is_together-clause-axis
returns-else-is_together-clause-axis c =
    axis_at c.args.swept_keys.now c.args.from c.loop-end.end c.requires c.loop-end.invariant.past c.loop-end.invariant.follow
    (left_goes c.args.swept_keys.now c.loop-end.end c.index-swept_keys-end.result c.loop-end-test.true c.index-swept_keys-end.is ∙ sym c.is_together.ensures ∙ c.if-is_together.false)
