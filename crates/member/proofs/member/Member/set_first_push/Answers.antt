use Rattle.std.proofs.Common.{Option, sym, subst, ◌∙◌}
use Rattle.std.specs.Option.{IfSome}
use Rattle.scenario.specs.Setup.{IsSoundGossip}
use Rattle.scenario.specs.declared.settings.Gossip.{Gossip}
use Rattle.member.proofs.member.Member.set_first_push.Goals as goal

pub begin_push_by-requires-clause-short : goal.begin_push_by-requires-clause-short
begin_push_by-requires-clause-short c =
    let sound : IsSoundGossip c.in-Some.gossip = subst (λ (o : Option Gossip). IfSome o IsSoundGossip) (sym c.gossip-settings.ensures.value ∙ c.in-Some.is) c.args.here.now.setting.sound.gossip in
    sound.push
