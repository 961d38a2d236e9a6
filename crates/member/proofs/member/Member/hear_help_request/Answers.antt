use Rattle.member.specs.LateAcks.{help_asked_for}
use Rattle.member.specs.declared.announce.Announce.TheVariants.{Aloud}
use Rattle.member.proofs.CounterOverflow.{kept_all, refused}
use Rattle.member.proofs.member.Member.hear_help_request.Goals as goal

pub returns-in_err-give_help : goal.returns-in_err-give_help
unfolding help_asked_for
returns-in_err-give_help c =
    refused _ _ c.from_residual.ensures.1 (λ h. kept_all c.args.here.now.scenario.now Aloud c.args.here.now.key c.args.updates.now _ (c.in_err-give_help.ensures.overflow h))
