use Rattle.member.proofs.CounterOverflow.{kept_in_turn, refused}
use Rattle.member.proofs.member.Member.go_on.Goals as goal

pub returns-in_err-make_event : goal.returns-in_err-make_event
returns-in_err-make_event c =
    let s = c.args.here.now.scenario.now in
    let k = c.args.here.now.key in
    refused _ _ c.from_residual.ensures.1 (λ h. kept_in_turn s k c.args.next _ (c.in_err-make_event.ensures.overflow h))
