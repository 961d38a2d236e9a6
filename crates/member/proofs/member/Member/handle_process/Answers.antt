use Rattle.std.proofs.Common.{◌≡◌, ℕ, List, Option, refl}
use Rattle.base.specs.declared.key.Key.{Key}
use Rattle.scenario.specs.Setup.{Setup}
use Rattle.incarnation.specs.declared.Update.{Update}
use Rattle.member.specs.declared.event_kind.EventKind.{EventKind}
use Rattle.member.specs.declared.event_kind.EventKind.TheVariants.{Leave, Restart, JoinTimer, Join, Welcome, Bye, GossipTimer, PushTimer, Push, Pull, SettingTimer, ConnectedTimer, ReconnectTimer, ExitTimer}
use Rattle.member.specs.Effects.{Effect}
use Rattle.member.specs.StateOf.{effect_of}
use Rattle.member.specs.Step.{single_handled, process_handled}
use Rattle.member.proofs.Tries.{makes_from}
use Rattle.member.proofs.member.Member.handle_process.Goals as goal

-- an event that has no rule of its own here
record HasNoRule (content : EventKind) : Type 0 where
  leave : content ≡ Leave → ⊥
  restart : (contact : Option ℕ) → content ≡ Restart contact → ⊥
  asks : content ≡ JoinTimer → ⊥
  join : content ≡ Join → ⊥
  welcome : (entries : List Update) → content ≡ Welcome entries → ⊥
  bye : content ≡ Bye → ⊥
  gossips : content ≡ GossipTimer → ⊥
  pushes : content ≡ PushTimer → ⊥
  push : (entries : List Update) → content ≡ Push entries → ⊥
  pull : (entries : List Update) → content ≡ Pull entries → ⊥
  sets : content ≡ SettingTimer → ⊥
  connects : (to : ℕ) → content ≡ ConnectedTimer to → ⊥
  tries : content ≡ ReconnectTimer → ⊥
  exits : content ≡ ExitTimer → ⊥

-- it goes by memberlist's rules
as_before : (s : Setup) (k : Key) (o : Effect) (content : EventKind) → HasNoRule content → single_handled s k content o ≡ process_handled s k content o
unfolding process_handled
as_before s k o Leave none = absurd (none.leave refl)
as_before s k o (Restart contact) none = absurd (none.restart contact refl)
as_before s k o JoinTimer none = absurd (none.asks refl)
as_before s k o Join none = absurd (none.join refl)
as_before s k o (Welcome entries) none = absurd (none.welcome entries refl)
as_before s k o Bye none = absurd (none.bye refl)
as_before s k o GossipTimer none = absurd (none.gossips refl)
as_before s k o PushTimer none = absurd (none.pushes refl)
as_before s k o (Push entries) none = absurd (none.push entries refl)
as_before s k o (Pull entries) none = absurd (none.pull entries refl)
as_before s k o SettingTimer none = absurd (none.sets refl)
as_before s k o (ConnectedTimer to) none = absurd (none.connects to refl)
as_before s k o ReconnectTimer none = absurd (none.tries refl)
as_before s k o ExitTimer none = absurd (none.exits refl)
as_before s k o content none = refl

pub returns-in_default : goal.returns-in_default
returns-in_default c =
    let a = c.args in
    let d = c.in_default in
    let none : HasNoRule a.content.now = record {
      leave = d.not-Leave;
      restart = d.not-Restart;
      asks = d.not-JoinTimer;
      join = d.not-Join;
      welcome = d.not-Welcome;
      bye = d.not-Bye;
      gossips = d.not-GossipTimer;
      pushes = d.not-PushTimer;
      push = d.not-Push;
      pull = d.not-Pull;
      sets = d.not-SettingTimer;
      connects = d.not-ConnectedTimer;
      tries = d.not-ReconnectTimer;
      exits = d.not-ExitTimer;
    } in
    makes_from (as_before a.here.now.scenario.now a.here.now.key (effect_of a.self.now a.effects.now) a.content.now none) c.handle_single.ensures
