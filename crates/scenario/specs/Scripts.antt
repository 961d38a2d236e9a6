-- The scripts of members, member by member.
use Rattle.std.specs.Prelude.{ℕ, List, []}
use Rattle.std.specs.List.{slice_index_or}
use Rattle.scenario.specs.declared.script.ScriptEvent.{ScriptEvent}

-- the events of a member: none for whom there is no place
abbrev pub script_at : List (List ScriptEvent) → ℕ → List ScriptEvent
script_at scripts m = slice_index_or scripts m []
