use Rattle.std.proofs.Common.{◌*◌, ◌++◌, ◌∙◌, ap, arith}
use Rattle.std.specs.List.{flat_map, range_with_len}
use Rattle.std.specs.String.{string_bytes}
use Rattle.drawing.specs.Axes.{at_ticks, tick_up}
use Rattle.drawing.proofs.Ranges.{place_more, tick_within}
use Rattle.drawing.proofs.axis.push_ticks_up.Goals as goal

pub overflow_mul-tick : goal.overflow_mul-tick
overflow_mul-tick c = omega (arith, tick_within c.loop-tick.tick c.round_step-step.result c.args.most c.loop-tick-test.true, c.requires)

pub loop-tick-preserved : goal.loop-tick-preserved
loop-tick-preserved c = place_more (λ tick. tick_up c.args.most (tick * c.round_step-step.result)) c.loop-tick.tick _ _ _ c.loop-tick.invariant c.in_ok-push_tick_up.ensures

pub returns : goal.returns
returns c =
    c.loop-tick.invariant
    ∙ ap (λ n. string_bytes c.args.text.now ++ flat_map (λ tick. tick_up c.args.most (tick * c.round_step-step.result)) (range_with_len 0 n)) (omega (arith, c.loop-tick-test.false, c.loop-tick.auto.tick-end))
    ∙ ap (λ step. string_bytes c.args.text.now ++ at_ticks (tick_up c.args.most) c.args.most step) c.round_step-step.ensures.least
