use Rattle.std.proofs.Common.{Option, sym, subst, ◌∙◌}
use Rattle.std.specs.Option.{IfSome}
use Rattle.scenario.specs.Setup.{IsSoundGossip}
use Rattle.scenario.specs.declared.settings.Gossip.{Gossip}
use Rattle.member.proofs.member.Member.set_pushes.Goals as goal

pub push_period-period-requires-clause-short : goal.push_period-period-requires-clause-short
push_period-period-requires-clause-short c =
    let sound : IsSoundGossip c.in-Some.gossip = subst (λ (o : Option Gossip). IfSome o IsSoundGossip) (sym c.gossip-settings.ensures.value ∙ c.in-Some.is) c.args.here.now.setting.sound.gossip in
    sound.push
