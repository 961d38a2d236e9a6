-- The machine of a drive: what a member makes of an event is what was answered to it.
use Rattle.std.specs.Prelude.{ℕ, ◌+◌, List, [], ◌∷◌, ◌++◌, map, flat_map, Option, Some, None, false, nat_lt, if◌then◌else◌}
use Rattle.std.specs.FinMap.{from_entries, empty}
use Rattle.base.specs.declared.key.Key.{Key}
use Rattle.base.specs.declared.profile.Profile.{Profile}
use Rattle.base.specs.declared.profile.Profile.TheVariants.{Papers, Memberlist, Hashicorp}
use Rattle.base.specs.World.{Machine, World, with_events}
use Rattle.scenario.specs.Setup as setup
use Rattle.scenario.specs.Setup.{Setup, start_of, crash_of, leave_of}
use Rattle.scenario.specs.Profile.{profile_of}
use Rattle.scenario.specs.declared.script.ScriptKind.{ScriptKind}
use Rattle.scenario.specs.declared.script.ScriptKind.TheVariants as script
use Rattle.scenario.specs.declared.script.ScriptEvent.{ScriptEvent}
use Rattle.trace.specs.declared.row.Row.{Row}
use Rattle.trace.specs.declared.row.What.TheVariants as what
use Rattle.member.specs.Opening.{numbers, script_key}
use Rattle.drive_events.specs.declared.content.Content.{Content}
use Rattle.drive_events.specs.declared.content.Content.TheVariants.{Start, Restart, Crash, Leave, Timer, Message}
use Rattle.drive_answers.specs.declared.action.Action.{Action}
use Rattle.drive_process.specs.declared.process.ProcessPhase.{ProcessPhase}
use Rattle.drive_process.specs.declared.process.ProcessPhase.TheVariants.{Waiting, Up, Leaving, Down}
use Rattle.drive_process.specs.Process.{Process, Effect, unchanged, on_process, with_phase, with_row, opening_process}
use Rattle.drive_process.specs.Acts.{all_acted}

-- a process begins that knows nothing of the former one; the numbers and the words go on
unfoldable pub reborn : Process → Process
reborn p = record { phase = Up; birth = p.next_number; next_number = p.next_number; words = p.words }

-- A timer of a former process has no effect.
unfoldable pub timer_ended : Setup → Key → List Action → Effect → Effect
timer_ended s k actions o = if nat_lt k.number o.state.birth then o else all_acted s k actions o

-- Who leaves is down after its answer; in version 4 of the format its process goes on until it exits.
abbrev pub left_by : Profile → Setup → Key → List Action → Effect → Effect
left_by Papers s k actions o = on_process (with_phase Down) (all_acted s k actions (with_row k what.Leave None 0 false o))
left_by Memberlist s k actions o = on_process (with_phase Down) (all_acted s k actions (with_row k what.Leave None 0 false o))
left_by Hashicorp s k actions o = all_acted s k actions (with_row k what.Leave None 0 false (on_process (with_phase Leaving) o))

abbrev pub crashed : Key → Effect → Effect
crashed k o = with_row k what.Crash None 0 false (on_process (with_phase Down) o)

abbrev pub restarted : Setup → Key → List Action → Effect → Effect
restarted s k actions o = all_acted s k actions (with_row k what.Restart None 0 false (on_process reborn o))

-- By cases on the event and whether its member runs. The world writes the rows of the script itself. Who crashes is not asked. An
-- event of a member that doesn't run has no effect, but that it starts again; nor has a second leave.
unfoldable pub heeded : Setup → Key → Content → ProcessPhase → List Action → Effect → Effect
heeded s k Start Waiting actions o = all_acted s k actions (with_row k what.Start None 0 false (on_process (with_phase Up) o))
heeded s k Restart Up actions o = restarted s k actions o
heeded s k Restart Leaving actions o = restarted s k actions o
heeded s k Restart Down actions o = restarted s k actions o
heeded s k Crash Up actions o = crashed k o
heeded s k Crash Leaving actions o = crashed k o
heeded s k Leave Up actions o = left_by (profile_of s) s k actions o
heeded s k (Timer id) Up actions o = timer_ended s k actions o
heeded s k (Timer id) Leaving actions o = timer_ended s k actions o
heeded s k (Message m) Up actions o = all_acted s k actions o
heeded s k (Message m) Leaving actions o = all_acted s k actions o
heeded s k _ _ actions o = o

-- the answer to each event, by its key
abbrev pub Answers : Type 0
Answers = Key → List Action

unfoldable pub driven : Setup → Answers → Machine Process Content Row
driven s answers k content p = heeded s k content p.phase (answers k) (unchanged p)

-- what the script has for a member behind its start: in versions 1 to 3 its crash or its leave
abbrev pub ending : Content → ℕ → Option ℕ → List (Key × Content)
ending content m None = []
ending content m (Some at) = (script_key m at 1, content) ∷ []

abbrev pub endings_of : Setup → ℕ → List (Key × Content)
endings_of s m = ending Crash m (crash_of s m) ++ ending Leave m (leave_of s m)

-- in version 4 it may crash, leave and start again several times
abbrev pub content_of : ScriptKind → Content
content_of script.Crash = Crash
content_of script.Leave = Leave
content_of (script.Restart contact) = Restart

abbrev pub numbered_from : ℕ → ℕ → List ScriptEvent → List (Key × Content)
numbered_from m number [] = []
numbered_from m number (e ∷ es) = (script_key m e.at number, content_of e.kind) ∷ numbered_from m (number + 1) es

abbrev pub entries_by : Profile → Setup → ℕ → List (Key × Content)
entries_by Papers s m = endings_of s m
entries_by Memberlist s m = endings_of s m
entries_by Hashicorp s m = numbered_from m 1 (setup.script_of s m)

-- and its start
abbrev pub script_by : Profile → Setup → ℕ → List (Key × Content)
script_by profile s m = (script_key m (start_of s m) 0, Start) ∷ entries_by profile s m

-- All members wait, and all events of the script pend, also those past the end.
abbrev pub opening : Setup → World Process Content
opening s = record {
  members = from_entries (map (λ m. (m, opening_process s m)) (numbers s));
  pending = with_events empty (flat_map (script_by (profile_of s) s) (numbers s));
}
