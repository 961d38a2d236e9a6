-- How processes start by memberlist 0.5.0's rules. Who starts with the cluster knows all others that do. Who starts later, or again, begins alone: it knows nobody, and asks its
-- contact, if it has one, for all that is known, again and again until it hears that (memberlist.go: Join; state.go: schedule, pushPull).
use Rattle.std.specs.Prelude.{ℕ, ◌+◌, ◌^◌, Bool, false, nat_eq, nat_lt, if◌then◌else◌, List, length, Option, Some, None}
use Rattle.base.specs.declared.key.Key.{Key}
use Rattle.scenario.specs.Setup.{Setup, contact_of, start_of}
use Rattle.scenario.specs.Profile.{profile_of}
use Rattle.scenario.specs.declared.settings.Gossip.{Gossip}
use Rattle.scenario.specs.declared.settings.Serf.{Serf}
use Rattle.streams.specs.Draw.{below_of}
use Rattle.trace.specs.declared.row.What.TheVariants as what
use Rattle.incarnation.specs.declared.Update.{Update}
use Rattle.membership.specs.Table.{size_by}
use Rattle.lives.specs.Lives.{life_begun}
use Rattle.member.specs.declared.event_kind.EventKind.TheVariants.{JoinTimer, PeriodTimer, PushTimer, ReconnectTimer, SettingTimer}
use Rattle.member.specs.declared.member.Phase.TheVariants.{Running}
use Rattle.member.specs.State.{State}
use Rattle.member.specs.Opening.{opening_state}
use Rattle.member.specs.Effects.{Effect, on_state, with_row, with_event, with_timer}
use Rattle.member.specs.EvenPushes.{push_period}
use Rattle.member.specs.Connections.{with_words, dial_drawn, dial_done, dialed}
use Rattle.member.specs.Choices.{about_others}
use Rattle.member.specs.Starts.{began}

-- ---- asking

-- a member opens a connection to its contact, and another one later
unfoldable pub contact_dialed : Setup → Key → ℕ → Effect → Effect
contact_dialed s k contact o =
    let drawn = dial_drawn s k contact o.state in
    with_event s k (dial_done s k drawn.0 + s.dial.retry) k.to JoinTimer (dialed s k what.Join contact drawn.0 (on_state (with_words drawn.1) o))

-- whom it asks, if anybody
abbrev pub contact_asked : Setup → Key → Option ℕ → Effect → Effect
contact_asked s k None o = o
contact_asked s k (Some contact) o = contact_dialed s k contact o

-- who is asked, if anybody
abbrev pub is_asked : ℕ → Option ℕ → Bool
is_asked member None = false
is_asked member (Some contact) = nat_eq member contact

-- the contact's table has come
abbrev pub contact_reached : Key → List Update → Effect → Effect
contact_reached k entries o =
    if is_asked k.from o.state.life.contact
    then with_row k what.Joined (Some k.from) (length (about_others k.to entries)) false (on_state (λ t. record t { life = record t.life { contact = None } }) o)
    else o

-- ---- beginning alone

-- the pushes begin at a moment that chance decides, within a time between pushes
abbrev pub setting_drawn : Setup → Key → ℕ → Effect → Effect
setting_drawn s k push o =
    let drawn = below_of o.state.words push in
    with_timer s k (1 + drawn.0) SettingTimer (on_state (with_words drawn.1) o)

-- where members push
abbrev pub setting_set : Setup → Key → Option Gossip → Effect → Effect
setting_set s k None o = o
setting_set s k (Some gossip) o = if nat_eq gossip.push 0 then o else setting_drawn s k gossip.push o

-- the first try to reach one that failed
abbrev pub reconnect_set : Setup → Key → Option Serf → Effect → Effect
reconnect_set s k None o = o
reconnect_set s k (Some serf) o = with_timer s k serf.reconnect ReconnectTimer o

-- its beats begin a period from now
abbrev pub own_beats_set : Setup → Key → Effect → Effect
own_beats_set s k o = with_timer s k s.swim.period PeriodTimer (on_state (λ t. record t { beat = k.at + s.swim.period }) o)

-- A member begins alone, and asks somebody, or nobody.
unfoldable pub alone_begun : Setup → Key → Option ℕ → Effect → Effect
alone_begun s k contact o = contact_asked s k contact (reconnect_set s k s.serf (setting_set s k s.gossip (own_beats_set s k o)))

-- the pushes of one that has begun alone begin, where members push
abbrev pub pushes_set : Setup → Key → Option Gossip → Effect → Effect
pushes_set s k None o = o
pushes_set s k (Some gossip) o =
    if nat_eq gossip.push 0 then o else with_timer s k (push_period gossip.push (size_by (profile_of s) o.state.table)) PushTimer o

-- ---- starts

-- the first try of a founder to reach one that failed, within a time between tries after its first period
abbrev pub founders_try_set : Setup → Key → Serf → Effect → Effect
founders_try_set s k serf o =
    let drawn = below_of o.state.words serf.reconnect in
    with_event s k (o.state.beat + drawn.0) k.to ReconnectTimer (on_state (with_words drawn.1) o)

-- where there is Serf
abbrev pub founders_reconnect_set : Setup → Key → Option Serf → Effect → Effect
founders_reconnect_set s k None o = o
founders_reconnect_set s k (Some serf) o = founders_try_set s k serf o

-- a founder knows all others that start with it
abbrev pub founder_begun : Setup → Key → Effect → Effect
founder_begun s k o = founders_reconnect_set s k s.serf (began s k o)

-- one that starts later asks its group's contact
abbrev pub latecomer_begun : Setup → Key → Option ℕ → Effect → Effect
latecomer_begun s k contact o =
    alone_begun s k contact (on_state (λ t. record t { phase = Running; life = record t.life { contact = contact } }) o)

-- A process starts.
unfoldable pub process_started : Setup → Key → Effect → Effect
process_started s k o =
    let told = with_row k what.Start None 0 false o in
    if nat_eq (start_of s k.to) 0 then founder_begun s k told else latecomer_begun s k (contact_of s k.to) told

-- what a restart makes of a number that begins anew: one past its limit stays so, which no simulation comes to, and so a run that ends with all counters within their limits
-- had them so all the time
abbrev pub past_limit : ℕ → ℕ
past_limit number = if nat_lt (2 ^ 63) number then number else 0

-- as before the start, but for the counters and the draws, which go on; its timers have numbers from now on
abbrev pub reborn : Setup → ℕ → Option ℕ → State → State
reborn s m contact t = record (opening_state s m) {
  phase = Running;
  next_number = t.next_number;
  sequence = t.sequence;
  incarnation = past_limit t.incarnation;
  words = t.words;
  life = life_begun t.next_number contact;
}

-- A process starts again.
unfoldable pub restarted : Setup → Key → Option ℕ → Effect → Effect
restarted s k contact o = alone_begun s k contact (with_row k what.Restart None 0 false (on_state (reborn s k.to contact) o))
