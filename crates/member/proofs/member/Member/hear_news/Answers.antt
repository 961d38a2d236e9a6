use Rattle.std.proofs.Common.{map, ap, ◌∙◌, subst}
use Rattle.member.specs.State.{State}
use Rattle.member.specs.Apply.{news_heard, claim_heard}
use Rattle.member.specs.Intents.{regards_kept}
use Rattle.member.specs.StateOf.{pair_of}
use Rattle.member.specs.CounterOverflow.{IsOverflowed}
use Rattle.member.proofs.CounterOverflow.{kept_passed_on, refused}
use Rattle.member.proofs.member.Member.hear_news.Goals as goal

pub returns-in_err-hear_claim : goal.returns-in_err-hear_claim
unfolding news_heard
returns-in_err-hear_claim c =
    let s = c.args.here.now.scenario.now in
    let k = c.args.here.now.key in
    let u = c.args.update.now in
    let effects = c.args.effects.now in
    refused _ _ c.from_residual-in_err-hear_claim.ensures.1 (λ h. kept_passed_on s k c.args.telling u _
    (subst (λ (t : State). IsOverflowed (claim_heard s c.args.telling k u u.claim (record { state = t; events = map pair_of effects.events.items; rows = effects.rows.items })).state)
    (c.in_ok-keep_regards.ensures.made.ok ∙ ap (regards_kept s.serf k.at u) c.in_ok-keep_claim_by.ensures.made.ok) (c.in_err-hear_claim.ensures.overflow h)))
