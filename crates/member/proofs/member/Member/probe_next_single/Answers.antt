use Rattle.member.specs.Forgetting.{round_ended}
use Rattle.member.specs.SingleBeat.{next_single_probed}
use Rattle.member.specs.StateOf.{effect_of}
use Rattle.member.proofs.CounterOverflow.{kept_turn_probed, refused}
use Rattle.member.proofs.member.Member.probe_next_single.Goals as goal

pub returns-in_err-end_round : goal.returns-in_err-end_round
unfolding next_single_probed
returns-in_err-end_round c =
    let s = c.args.here.now.scenario.now in
    let k = c.args.here.now.key in
    refused _ _ c.from_residual.ensures.1
    (λ h. kept_turn_probed s k (round_ended s k (effect_of c.args.self.now c.args.effects.now)) (c.in_err-end_round.ensures.overflow h))
