use Rattle.std.proofs.Common.{Option, sym, subst, ◌∙◌}
use Rattle.std.specs.Option.{IfSome}
use Rattle.scenario.specs.Setup.{IsSoundGossip}
use Rattle.scenario.specs.declared.settings.Gossip.{Gossip}
use Rattle.member.proofs.member.Member.set_setting.Goals as goal

pub draw_setting-requires-clause-short : goal.draw_setting-requires-clause-short
draw_setting-requires-clause-short c =
    let sound : IsSoundGossip c.in-Some.gossip = subst (λ (o : Option Gossip). IfSome o IsSoundGossip) (sym c.gossip-settings.ensures.value ∙ c.in-Some.is) c.args.here.now.setting.sound.gossip in
    sound.push
