use Rattle.member.specs.Step.{join_asked}
use Rattle.member.proofs.CounterOverflow.{kept_timer, refused}
use Rattle.member.proofs.member.Member.ask_join.Goals as goal

pub returns-in_err-send_join : goal.returns-in_err-send_join
unfolding join_asked
returns-in_err-send_join c = refused _ _ c.from_residual.ensures.1 (λ h. kept_timer c.args.here.now.scenario.now c.args.here.now.key _ _ _ (c.in_err-send_join.ensures.overflow h))
