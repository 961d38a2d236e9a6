use Rattle.member.proofs.CounterOverflow.{kept_between_beats, refused}
use Rattle.member.proofs.member.Member.set_both_timers.Goals as goal

pub returns-in_err-set_timer : goal.returns-in_err-set_timer
returns-in_err-set_timer c =
    let s = c.args.here.now.scenario.now in
    let k = c.args.here.now.key in
    refused _ _ c.from_residual.ensures.1 (λ h. kept_between_beats s k c.args.seq c.args.deadline _ (c.in_err-set_timer.ensures.overflow h))
