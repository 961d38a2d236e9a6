use Rattle.std.proofs.Common.{◌*◌, ◌++◌, ◌∙◌, ap, arith}
use Rattle.std.specs.List.{flat_map, range_with_len}
use Rattle.std.specs.String.{string_bytes}
use Rattle.drawing.specs.Axes.{at_ticks, length_across}
use Rattle.drawing.proofs.Ranges.{place_more}
use Rattle.drawing.proofs.axis.push_lengths.Goals as goal

pub loop-tick-preserved : goal.loop-tick-preserved
loop-tick-preserved c = place_more (λ tick. length_across c.args.most (tick * c.time_step-step.result)) c.loop-tick.tick _ _ _ c.loop-tick.invariant
    (c.in_ok-push_length_across.ensures ∙ ap (λ t. string_bytes c.loop-tick.text ++ length_across c.args.most (t * c.time_step-step.result)) c.from.ensures)

pub returns : goal.returns
returns c =
    c.loop-tick.invariant
    ∙ ap (λ n. string_bytes c.args.text.now ++ flat_map (λ tick. length_across c.args.most (tick * c.time_step-step.result)) (range_with_len 0 n)) (omega (arith, c.loop-tick-test.false, c.loop-tick.auto.tick-end))
    ∙ ap (λ step. string_bytes c.args.text.now ++ at_ticks (length_across c.args.most) c.args.most step) c.time_step-step.ensures.least
