use Rattle.std.proofs.Common.{Option, sym, subst, ◌∙◌}
use Rattle.std.specs.Option.{IfSome}
use Rattle.scenario.specs.Setup.{IsSoundSerf}
use Rattle.scenario.specs.declared.settings.Serf.{Serf}
use Rattle.member.proofs.member.Member.set_founders_reconnect.Goals as goal

pub set_founders_try-requires-clause-sound : goal.set_founders_try-requires-clause-sound
set_founders_try-requires-clause-sound c =
    let sound : IsSoundSerf c.in-Some.serf = subst (λ (o : Option Serf). IfSome o IsSoundSerf) (sym c.serf-settings.ensures.value ∙ c.in-Some.is) c.args.here.now.setting.sound.serf in
    sound
