use Rattle.member.specs.Merges.{push_merged}
use Rattle.member.proofs.CounterOverflow.{refused}
use Rattle.member.proofs.ProcessOverflow.{kept_table}
use Rattle.member.proofs.member.Member.merge_push.Goals as goal

pub returns-in_err-send_pull : goal.returns-in_err-send_pull
unfolding push_merged
returns-in_err-send_pull c =
    let s = c.args.here.now.scenario.now in
    let k = c.args.here.now.key in
    refused _ _ c.from_residual.ensures.1 (λ h. kept_table s k c.args.entries.now _ (c.in_err-send_pull.ensures.overflow h))
