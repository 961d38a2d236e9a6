-- The script: what happens to members, in the order of its moments.
use Rattle.std.specs.Prelude.{ℕ, Bool, nat_eq, nat_le, List, [], ◌∷◌, ◌++◌, map, filter, if◌then◌else◌, Option, None}
use Rattle.scenario.specs.declared.settings.Crash.{Crash as ACrash}
use Rattle.scenario.specs.declared.settings.Leave.{Leave as ALeave}
use Rattle.scenario.specs.declared.settings.Restart.{Restart as ARestart}
use Rattle.scenario.specs.declared.script.ScriptKind.{ScriptKind}
use Rattle.scenario.specs.declared.script.ScriptKind.TheVariants.{Crash, Leave, Restart}
use Rattle.scenario.specs.declared.script.ScriptEvent.{ScriptEvent}

abbrev pub crash_event : ACrash → ScriptEvent
crash_event c = record { member = c.member; at = c.at; kind = Crash }

abbrev pub leave_event : ALeave → ScriptEvent
leave_event l = record { member = l.member; at = l.at; kind = Leave }

abbrev pub restart_event : ARestart → ScriptEvent
restart_event r = record { member = r.member; at = r.at; kind = Restart r.contact }

-- the entries of the lists: crashes, then leaves, then restarts, each in the order of the text
abbrev pub entries_in : List ACrash → List ALeave → List ARestart → List ScriptEvent
entries_in crashes leaves restarts = map crash_event crashes ++ (map leave_event leaves ++ map restart_event restarts)

-- an event goes before the first that is no earlier
abbrev pub put_before : ScriptEvent → List ScriptEvent → List ScriptEvent
put_before e [] = e ∷ []
put_before e (next ∷ rest) = if nat_le e.at next.at then e ∷ next ∷ rest else next ∷ put_before e rest

-- in the order of moments; those of one moment stay in their order
abbrev pub by_moment : List ScriptEvent → List ScriptEvent
by_moment [] = []
by_moment (e ∷ es) = put_before e (by_moment es)

-- it happens to the member
abbrev pub is_of : ℕ → ScriptEvent → Bool
is_of m e = nat_eq e.member m

-- what happens to a member, in the order of moments; at one moment crashes before leaves before restarts, and of one list in the text's order
unfoldable pub script_in : List ACrash → List ALeave → List ARestart → ℕ → List ScriptEvent
script_in crashes leaves restarts m = filter (is_of m) (by_moment (entries_in crashes leaves restarts))

-- whom a member asks that starts again
abbrev pub asked_by : ScriptKind → Option ℕ
asked_by Crash = None
asked_by Leave = None
asked_by (Restart contact) = contact
