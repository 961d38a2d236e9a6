use Rattle.std.proofs.Common.{ap, arith}
use Rattle.member.specs.Leaves.{linger_of}
use Rattle.member.proofs.Times.{linger_short}
use Rattle.lives.specs.Lives.{LifeState, life_of}
use Rattle.member.proofs.Holds.{holds_alike}
use Rattle.member.proofs.member.Member.linger.Goals as goal

pub set_timer-requires-clause-ticks_within : goal.set_timer-requires-clause-ticks_within
set_timer-requires-clause-ticks_within c =
    let setting = c.args.here.now.setting in
    let short = linger_short c.args.here.now.scenario.now.serf setting.sound.serf in
    omega (arith, c.linger_of-ticks.ensures, ap linger_of c.serf.ensures.value, short)

pub set_timer-requires-clause-known : goal.set_timer-requires-clause-known
set_timer-requires-clause-known c =
    let self = c.args.self.now in
    holds_alike c.args.here.now.scenario.now c.args.here.now.key.to self.table self.rota self.probe (life_of self.life).contact _ (ap (λ (l : LifeState). l.contact) c.in_ok-leave.ensures) c.requires
