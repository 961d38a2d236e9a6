use Rattle.std.proofs.Common.{Option, sym, subst}
use Rattle.suspicion.specs.declared.suspicions.Accused.{Accused}
use Rattle.member.specs.declared.event_kind.EventKind.TheVariants.{SuspicionTimer}
use Rattle.member.specs.Effects.{Effect, with_event}
use Rattle.member.specs.Apply.{accusation_counted}
use Rattle.member.specs.StateOf.{effect_of}
use Rattle.member.specs.CounterOverflow.{IsOverflowed}
use Rattle.member.proofs.CounterOverflow.{kept_passed_on, refused}
use Rattle.member.proofs.member.Member.count_accusation.Goals as goal

pub returns-in_err-make_event : goal.returns-in_err-make_event
returns-in_err-make_event c =
    let s = c.args.here.now.scenario.now in
    let k = c.args.here.now.key in
    let u = c.args.update.now in
    let due = c.in-Some.accused.due in
    refused _ _ c.from_residual-in_err-make_event.ensures.1 (λ h. subst (λ (a : Option Accused). IsOverflowed (accusation_counted s c.args.telling k u a (effect_of c.args.self.now c.args.effects.now)).state) (sym c.in-Some.is)
    (kept_passed_on s k c.args.telling u _
    (subst (λ (o : Effect). IsOverflowed (with_event s k due k.to (SuspicionTimer u.subject) o).state) c.in_ok-tell.ensures.ok (c.in_err-make_event.ensures.overflow h))))
