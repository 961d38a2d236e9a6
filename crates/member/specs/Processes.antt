-- What a process makes of an event by memberlist 0.5.0's and Serf's rules: it may crash, leave and start again. A timer of a former life has no effect.
use Rattle.std.specs.Prelude.{ℕ, ◌&&◌, Bool, true, false, nat_lt, List}
use Rattle.base.specs.declared.key.Key.{Key}
use Rattle.scenario.specs.Setup.{Setup}
use Rattle.incarnation.specs.declared.Update.{Update}
use Rattle.member.specs.declared.event_kind.EventKind.{EventKind}
use Rattle.member.specs.declared.event_kind.EventKind.TheVariants.{Start, Restart, JoinTimer, PeriodTimer, TimeoutTimer, NackTimer, SuspicionTimer, DeadlineTimer, GossipTimer, PushTimer, SettingTimer, ConnectedTimer, ReconnectTimer, ExitTimer}
use Rattle.member.specs.Effects.{Effect}
use Rattle.member.specs.Beginnings.{contact_reached, process_started, restarted}
use Rattle.member.specs.Merges.{table_merged}

abbrev pub is_timer : EventKind → Bool
is_timer JoinTimer = true
is_timer PeriodTimer = true
is_timer (TimeoutTimer seq) = true
is_timer (NackTimer initiator seq) = true
is_timer (SuspicionTimer subject) = true
is_timer (DeadlineTimer seq) = true
is_timer GossipTimer = true
is_timer PushTimer = true
is_timer SettingTimer = true
is_timer (ConnectedTimer to) = true
is_timer ReconnectTimer = true
is_timer ExitTimer = true
is_timer _ = false

-- whether an event is a timer that was set before the member's present life
abbrev pub is_of_former_life : Key → EventKind → ℕ → Bool
is_of_former_life k content birth = is_timer content && nat_lt k.number birth

-- a table that has come
abbrev pub pull_merged : Setup → Key → List Update → Effect → Effect
pull_merged s k entries o = table_merged s k entries (contact_reached k entries o)

-- one that hasn't started heeds its start alone
abbrev pub start_handled : Setup → Key → EventKind → Effect → Effect
start_handled s k Start o = process_started s k o
start_handled s k _ o = o

-- one that is down may start again
abbrev pub restart_handled : Setup → Key → EventKind → Effect → Effect
restart_handled s k (Restart contact) o = restarted s k contact o
restart_handled s k _ o = o
