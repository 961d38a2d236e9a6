use Rattle.std.proofs.Common.{sym, ◌∙◌}
use Rattle.drawing.specs.Rounds.{is_long_enough, long_steps}
use Rattle.drawing.proofs.Steps.{no_one, one_found, one_past}
use Rattle.drawing.proofs.round.long_step.Goals as goal

pub returns-in-Some-clause-least : goal.returns-in-Some-clause-least
returns-in-Some-clause-least c =
    sym (one_found (is_long_enough c.args.length c.args.ticks) long_steps c.loop-step.step-index c.in-Some.found _
    c.loop-step-test.true c.loop-step.invariant (sym c.in-Some.ensures.least))

pub loop-step-preserved : goal.loop-step-preserved
loop-step-preserved c =
    one_past (is_long_enough c.args.length c.args.ticks) long_steps c.loop-step.step-index _ c.loop-step-test.true c.loop-step.invariant (sym c.step_if.ensures.least ∙ c.in_default.is)

pub returns-clause-least : goal.returns-clause-least
returns-clause-least c =
    sym (no_one (is_long_enough c.args.length c.args.ticks) long_steps c.loop-step.step-index _ c.loop-step-test.false c.loop-step.invariant)
