use Rattle.std.proofs.Common.{◌≡◌, ◌+◌, ◌/◌, ◌∙◌, ap, sym, arith}
use Rattle.std.specs.Option.{unwrap_or}
use Rattle.std.proofs.Math.Nat.{div-eq_of_lt}
use Rattle.drawing.specs.Rounds.{is_long_enough, round_step}
use Rattle.drawing.proofs.Steps.{none_left, power_past, power_found, powers}
use Rattle.drawing.proofs.round.round_step.Goals as goal

pub returns-in-Some-clause-least : goal.returns-in-Some-clause-least
unfolding round_step
returns-in-Some-clause-least c =
    sym (ap (λ found. unwrap_or found (c.args.most + 1)) (power_found (is_long_enough c.args.most c.args.ticks) powers c.loop-power.power-index c.in-Some.step _
    c.loop-power-test.true c.loop-power.invariant (sym c.in-Some.ensures.least)))

pub loop-power-preserved : goal.loop-power-preserved
loop-power-preserved c =
    power_past (is_long_enough c.args.most c.args.ticks) powers c.loop-power.power-index _ c.loop-power-test.true c.loop-power.invariant (sym c.step_of.ensures.least ∙ c.in_default.is)

pub returns-clause-few : goal.returns-clause-few
returns-clause-few c =
    let none : c.args.most / (c.args.most + 1) ≡ 0 = div-eq_of_lt (omega arith) in
    omega (arith, none)

pub returns-clause-least : goal.returns-clause-least
unfolding round_step
returns-clause-least c =
    sym (ap (λ found. unwrap_or found (c.args.most + 1)) (none_left (is_long_enough c.args.most c.args.ticks) powers c.loop-power.power-index _ c.loop-power-test.false c.loop-power.invariant))
