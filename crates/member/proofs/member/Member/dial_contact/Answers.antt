use Rattle.trace.specs.declared.row.What.TheVariants as what
use Rattle.member.specs.StateOf.{effect_of}
use Rattle.member.specs.Beginnings.{contact_dialed}
use Rattle.member.proofs.CounterOverflow.{kept_event, refused}
use Rattle.member.proofs.ProcessOverflow.{overflow_dialed}
use Rattle.member.proofs.member.Member.dial_contact.Goals as goal

pub returns-in_err-tell_dial : goal.returns-in_err-tell_dial
unfolding contact_dialed
returns-in_err-tell_dial c =
    let s = c.args.here.now.scenario.now in
    let k = c.args.here.now.key in
    let drawn = c.draw_dial-there.ensures.drawn in
    refused _ _ c.from_residual.ensures.1 (λ h. kept_event s k _ _ _ _ (overflow_dialed s k what.Join c.args.contact _ _ (effect_of c.args.self.now c.args.effects.now) _ drawn.first drawn.rest (c.in_err-tell_dial.ensures.overflow h)))
