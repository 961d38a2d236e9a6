use Rattle.member.specs.declared.event_kind.EventKind.TheVariants.{PeriodTimer}
use Rattle.member.specs.Effects.{with_event}
use Rattle.member.specs.StateOf.{effect_of}
use Rattle.member.proofs.CounterOverflow.{kept_beat_taken, refused}
use Rattle.member.proofs.member.Member.beat_on.Goals as goal

pub returns-in_err-make_event : goal.returns-in_err-make_event
returns-in_err-make_event c =
    let s = c.args.here.now.scenario.now in
    let k = c.args.here.now.key in
    refused _ _ c.from_residual.ensures.1
    (λ h. kept_beat_taken s k (with_event s k c.args.next k.to PeriodTimer (effect_of c.args.self.now c.args.effects.now)) (c.in_err-make_event.ensures.overflow h))
