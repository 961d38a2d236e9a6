use Rattle.std.proofs.Common.{subst}
use Rattle.member.specs.Effects.{Effect}
use Rattle.member.specs.News.{passed_on}
use Rattle.member.specs.LateAccusations.{death_of}
use Rattle.member.specs.CounterOverflow.{IsOverflowed}
use Rattle.member.proofs.CounterOverflow.{kept_news, refused}
use Rattle.member.proofs.member.Member.confirm_accused.Goals as goal

pub returns-in_err-pass_on : goal.returns-in_err-pass_on
returns-in_err-pass_on c =
    let s = c.args.here.now.scenario.now in
    let k = c.args.here.now.key in
    let u = c.args.update.now in
    refused _ _ c.from_residual-in_err-pass_on.ensures.1 (λ h. kept_news s c.args.telling k (death_of k.to u.subject c.args.number) _
    (subst (λ (o : Effect). IsOverflowed (passed_on s k c.args.telling u o).state) c.in_ok-tell.ensures.ok (c.in_err-pass_on.ensures.overflow h)))
