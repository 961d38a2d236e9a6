use Rattle.std.proofs.Common.{subst}
use Rattle.incarnation.specs.declared.Update.{Update}
use Rattle.member.specs.declared.announce.Announce.TheVariants.{Aloud}
use Rattle.member.specs.Apply.{applied}
use Rattle.member.specs.StateOf.{effect_of}
use Rattle.member.specs.CounterOverflow.{IsOverflowed}
use Rattle.member.proofs.CounterOverflow.{refused}
use Rattle.member.proofs.ProcessOverflow.{kept_note}
use Rattle.member.proofs.member.Member.merge_news.Goals as goal

pub returns-in_err-apply : goal.returns-in_err-apply
returns-in_err-apply c =
    let s = c.args.here.now.scenario.now in
    let k = c.args.here.now.key in
    refused _ _ c.from_residual.ensures.1 (λ h. kept_note s k c.args.entry.now (effect_of c.args.self.now c.args.effects.now) (subst (λ (u : Update). IsOverflowed (applied s Aloud k u (effect_of c.args.self.now c.args.effects.now)).state) c.entry_claim-claim.ensures.value (c.in_err-apply.ensures.overflow h)))
