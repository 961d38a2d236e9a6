use Rattle.std.proofs.Common.{sym, ◌∙◌}
use Rattle.member.specs.StateOf.{effect_of}
use Rattle.member.proofs.CounterOverflow.{refused}
use Rattle.member.proofs.ProcessOverflow.{kept_round}
use Rattle.member.proofs.member.Member.tell_whole_round.Goals as goal

pub returns-in_err-spread_gossip : goal.returns-in_err-spread_gossip
returns-in_err-spread_gossip c =
    let s = c.args.here.now.scenario.now in
    let k = c.args.here.now.key in
    refused _ _ c.from_residual.ensures.1
    (λ h. kept_round s k c.args.gossip (effect_of c.args.self.now c.args.effects.now) (sym c.is_all_told.ensures ∙ c.if-is_all_told.false) (c.in_err-spread_gossip.ensures.overflow h))
