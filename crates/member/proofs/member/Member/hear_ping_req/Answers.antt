use Rattle.std.proofs.Common.{subst}
use Rattle.member.specs.Effects.{Effect}
use Rattle.member.specs.Send.{ping_sent}
use Rattle.member.specs.Step.{ping_req_heard}
use Rattle.member.specs.CounterOverflow.{IsOverflowed}
use Rattle.member.proofs.CounterOverflow.{kept_ping, kept_owed, refused}
use Rattle.member.proofs.member.Member.hear_ping_req.Goals as goal

pub returns-in_err-apply_all : goal.returns-in_err-apply_all
unfolding ping_req_heard
returns-in_err-apply_all c =
    let s = c.args.here.now.scenario.now in
    let k = c.args.here.now.key in
    refused _ _ c.from_residual.ensures.1 (λ h. kept_owed s k c.args.seq _ (kept_ping s k c.args.target k.from c.args.seq _ (c.in_err-apply_all.ensures.overflow h)))

pub returns-in_err-send_ping : goal.returns-in_err-send_ping
unfolding ping_req_heard
returns-in_err-send_ping c =
    let s = c.args.here.now.scenario.now in
    let k = c.args.here.now.key in
    refused _ _ c.from_residual-in_err-send_ping.ensures.1 (λ h. kept_owed s k c.args.seq _
    (subst (λ (p : Effect). IsOverflowed (ping_sent s k c.args.target k.from c.args.seq p).state) c.in_ok-apply_all.ensures.ok (c.in_err-send_ping.ensures.overflow h)))
