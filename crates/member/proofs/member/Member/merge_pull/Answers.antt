use Rattle.member.proofs.CounterOverflow.{refused}
use Rattle.member.proofs.ProcessOverflow.{kept_table}
use Rattle.member.proofs.member.Member.merge_pull.Goals as goal

pub returns-in_err-reach_contact : goal.returns-in_err-reach_contact
returns-in_err-reach_contact c =
    let s = c.args.here.now.scenario.now in
    let k = c.args.here.now.key in
    refused _ _ c.from_residual.ensures.1 (λ h. kept_table s k c.args.entries.now _ (c.in_err-reach_contact.ensures.overflow h))
