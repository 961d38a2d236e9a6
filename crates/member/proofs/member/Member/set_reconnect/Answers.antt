use Rattle.std.proofs.Common.{Option, arith, sym, subst, ◌∙◌}
use Rattle.std.specs.Option.{IfSome}
use Rattle.scenario.specs.Setup.{IsSoundSerf}
use Rattle.scenario.specs.declared.settings.Serf.{Serf}
use Rattle.member.proofs.member.Member.set_reconnect.Goals as goal

pub set_timer-requires-clause-ticks_within : goal.set_timer-requires-clause-ticks_within
set_timer-requires-clause-ticks_within c =
    let sound : IsSoundSerf c.in-Some.serf = subst (λ (o : Option Serf). IfSome o IsSoundSerf) (sym c.serf-settings.ensures.value ∙ c.in-Some.is) c.args.here.now.setting.sound.serf in
    let short = sound.reconnect.1 in omega (arith, short)
