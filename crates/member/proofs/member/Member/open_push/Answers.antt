use Rattle.member.specs.StateOf.{effect_of}
use Rattle.member.specs.DialedPushes.{push_opened}
use Rattle.member.proofs.CounterOverflow.{kept_event, refused}
use Rattle.member.proofs.ProcessOverflow.{overflow_push_dialed}
use Rattle.member.proofs.member.Member.open_push.Goals as goal

pub returns-in_err-tell_push_dial : goal.returns-in_err-tell_push_dial
unfolding push_opened
returns-in_err-tell_push_dial c =
    let s = c.args.here.now.scenario.now in
    let k = c.args.here.now.key in
    let drawn = c.draw_dial-there.ensures.drawn in
    refused _ _ c.from_residual.ensures.1 (λ h. kept_event s k _ _ _ _ (overflow_push_dialed s k c.args.to _ _ (effect_of c.args.self.now c.args.effects.now) _ drawn.first drawn.rest (c.in_err-tell_push_dial.ensures.overflow h)))
