-- The world in which a run begins.
use Rattle.std.specs.Prelude.{ℕ, List, [], ◌∷◌, ◌++◌, ◌+◌, length, map, flat_map, false, Option, Some, None, if◌then◌else◌}
use Rattle.std.specs.List.{range_with_len}
use Rattle.std.specs.Option.{option_map_or, option_or}
use Rattle.std.specs.FinMap.{from_entries, empty}
use Rattle.std.specs.FinSet as set
use Rattle.base.specs.declared.key.Key.{Key}
use Rattle.base.specs.World.{World, with_events}
use Rattle.base.specs.declared.profile.Profile.{Profile}
use Rattle.base.specs.declared.profile.Profile.TheVariants.{Papers, Memberlist, Hashicorp}
use Rattle.scenario.specs.Setup as setup
use Rattle.scenario.specs.Setup.{Setup, member_count, start_of, crash_of, leave_of}
use Rattle.scenario.specs.Profile.{profile_of}
use Rattle.scenario.specs.declared.script.ScriptKind.{ScriptKind}
use Rattle.scenario.specs.declared.script.ScriptKind.TheVariants as script
use Rattle.scenario.specs.declared.script.ScriptEvent.{ScriptEvent}
use Rattle.lives.specs.Lives.{first_life}
use Rattle.lifeguard.specs.Health.{LocalHealth, full_health}
use Rattle.membership.specs.Deaths.{never}
use Rattle.probing.specs.ProbeOrder.{round_over}
use Rattle.streams.specs.Draw.{member_words}
use Rattle.member.specs.declared.member.Phase.TheVariants.{Waiting}
use Rattle.member.specs.declared.event_kind.EventKind.{EventKind}
use Rattle.member.specs.declared.event_kind.EventKind.TheVariants.{Start, Crash, Leave, Restart}
use Rattle.member.specs.State.{State}

-- LHA-Probe off: the health stays full
abbrev pub opening_health : Setup → LocalHealth
opening_health s = full_health (if s.lifeguard.probe then s.lifeguard.ceiling else 0)

-- the first number that a member uses for an event of its making: its start has number 0, and its crash or its
-- leave, if it has one, number 1
abbrev pub first_number : Setup → ℕ → ℕ
first_number s m = option_map_or (λ at. 2) (option_or (crash_of s m) (leave_of s m)) 1

-- the same by the rules of a profile: in version 4 of the format each event of its script has a number
abbrev pub first_number_by : Profile → Setup → ℕ → ℕ
first_number_by Papers s m = first_number s m
first_number_by Memberlist s m = first_number s m
first_number_by Hashicorp s m = 1 + length (setup.script_of s m)

-- A member before its start knows nobody.
unfoldable pub opening_state : Setup → ℕ → State
opening_state s m = record {
  phase = Waiting;
  next_number = first_number_by (profile_of s) s m;
  sequence = 0;
  incarnation = 0;
  heard_dead = false;
  waits = false;
  gossips = false;
  beat = 0;
  since = never;
  health = opening_health s;
  probe = None;
  table = empty;
  buffer = empty;
  rota = round_over [];
  suspicions = empty;
  relays = set.empty;
  life = first_life;
  words = member_words s.seed m;
}

-- an event of the script: its receiver is its sender
abbrev pub script_key : ℕ → ℕ → ℕ → Key
script_key m at number = record { at = at; to = m; from = m; number = number }

-- the event with which a member's part ends, if the script has one
abbrev pub ending_event : EventKind → ℕ → Option ℕ → List (Key × EventKind)
ending_event content m None = []
ending_event content m (Some at) = (script_key m at 1, content) ∷ []

-- what the script has for a member, which crashes or leaves but once
abbrev pub script_of : Setup → ℕ → List (Key × EventKind)
script_of s m = (script_key m (start_of s m) 0, Start) ∷ (ending_event Crash m (crash_of s m) ++ ending_event Leave m (leave_of s m))

-- what a script's event asks of its member
abbrev pub content_of : ScriptKind → EventKind
content_of script.Crash = Crash
content_of script.Leave = Leave
content_of (script.Restart contact) = Restart contact

-- events of a member's script, numbered from a number on
abbrev pub numbered_from : ℕ → ℕ → List ScriptEvent → List (Key × EventKind)
numbered_from m number [] = []
numbered_from m number (e ∷ es) = (script_key m e.at number, content_of e.kind) ∷ numbered_from m (number + 1) es

-- The same in version 4 of the format, where it may crash, leave and start again several times.
abbrev pub whole_script_of : Setup → ℕ → List (Key × EventKind)
whole_script_of s m = (script_key m (start_of s m) 0, Start) ∷ numbered_from m 1 (setup.script_of s m)

-- by the rules of a profile
abbrev pub script_by : Profile → Setup → ℕ → List (Key × EventKind)
script_by Papers s m = script_of s m
script_by Memberlist s m = script_of s m
script_by Hashicorp s m = whole_script_of s m

-- members are numbered from 0
abbrev pub numbers : Setup → List ℕ
numbers s = range_with_len 0 (member_count s)

-- All members wait, and all events of the script pend, also those past the end.
abbrev pub opening : Setup → World State EventKind
opening s = record {
  members = from_entries (map (λ m. (m, opening_state s m)) (numbers s));
  pending = with_events empty (flat_map (script_by (profile_of s) s) (numbers s));
}
