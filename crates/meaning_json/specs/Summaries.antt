-- What happens in a scenario of version 4 as JSON, entry by entry as its text writes them. An entry that stands for several plain
-- ones is one object: how many they are, the first and the last of them.
use Rattle.std.specs.Prelude.{ℕ, nat_eq, nat_le, if◌then◌else◌, List, [], ◌∷◌, ◌++◌, codes, flat_map, Option, Some, None}
use Rattle.std.specs.List.{list_any}
use Rattle.std.specs.Option.{option_map_or}
use Rattle.scenario.specs.Setup.{Setup}
use Rattle.script_summary.specs.Entries.{is_several, name_of as entry_name}
use Rattle.script_summary.specs.declared.happening.Happening.{Happening}
use Rattle.script_summary.specs.declared.extent.Extent.{Extent}
use Rattle.script_summary.specs.declared.entries.EntrySummary.{EntrySummary}
use Rattle.script_summary.specs.declared.summary.RestartSummary.{RestartSummary}
use Rattle.script_summary.specs.declared.summary.ScriptSummary.{ScriptSummary}
use Rattle.meaning_text.specs.declared.kinds.EntryKind.{EntryKind}
use Rattle.meaning_text.specs.declared.kinds.EntryKind.TheVariants as entry
use Rattle.serde_json.specs.Data.{Data, string, null, object, put, no_members}
use Rattle.meaning_json.specs.Figures.{whole, list_of}
use Rattle.meaning_json.specs.Script.{crashes_data, cuts_data, departure_data, pause_data, restart_data, restarted_with, script_data, slow_data}

-- ---- a plain entry

abbrev pub moment_data : Setup → Happening → Data
moment_data s it = departure_data s it.member it.from

abbrev pub again_data : Setup → Happening → Data
again_data s it = restart_data s (record { member = it.member; at = it.from; contact = it.contact })

abbrev pub slowed_data : Setup → Happening → Data
slowed_data s it = slow_data s (record { member = it.member; from = it.from; until = it.until; extra = it.extra })

abbrev pub span_data : Setup → Happening → Data
span_data s it = pause_data s (record { member = it.member; from = it.from; until = it.until })

abbrev pub happening_data : EntryKind → Setup → Happening → Data
happening_data entry.Crash s it = moment_data s it
happening_data entry.Leave s it = moment_data s it
happening_data entry.Restart s it = again_data s it
happening_data entry.CrashReturn s it = again_data s it
happening_data entry.LeaveReturn s it = again_data s it
happening_data entry.Slow s it = slowed_data s it
happening_data entry.Pause s it = span_data s it
happening_data entry.Block s it = span_data s it

-- ---- an entry of the text

-- its name; null where it has none
abbrev pub name_data : Option (List ℕ) → Data
name_data name = option_map_or string name null

-- one that stands for several
unfoldable pub several_with : (count : ℕ) → (name first last : Data) → Data
several_with count name first last =
    object (put (codes "entries") (whole count) (put (codes "name") name (put (codes "last") last (put (codes "first") first no_members))))

-- one whose members are back several times, of this list
unfoldable pub returned_with : (list : List ℕ) → (count : ℕ) → (name first last : Data) → Data
returned_with list count name first last =
    object (put (codes "of") (string list) (put (codes "entries") (whole count) (put (codes "name") name (put (codes "last") last (put (codes "first") first no_members)))))

abbrev pub several_by : EntryKind → (count : ℕ) → (name first last : Data) → Data
several_by entry.Crash count name first last = several_with count name first last
several_by entry.Leave count name first last = several_with count name first last
several_by entry.Restart count name first last = several_with count name first last
several_by entry.CrashReturn count name first last = returned_with (codes "crash") count name first last
several_by entry.LeaveReturn count name first last = returned_with (codes "leave") count name first last
several_by entry.Slow count name first last = several_with count name first last
several_by entry.Pause count name first last = several_with count name first last
several_by entry.Block count name first last = several_with count name first last

abbrev pub several_data : EntryKind → Setup → Option (List ℕ) → Extent → Data
several_data kind s name e = several_by kind e.count (name_data name) (happening_data kind s e.first) (happening_data kind s e.last)

abbrev pub extent_data : EntryKind → Setup → Option (List ℕ) → Extent → Data
extent_data kind s name e = if nat_eq e.count 1 then happening_data kind s e.first else several_data kind s name e

-- an entry happens if its first one begins by the end
abbrev pub begun_item : EntryKind → Setup → Option (List ℕ) → Extent → List Data
begun_item kind s name e = if nat_le e.first.from s.end then extent_data kind s name e ∷ [] else []

abbrev pub entry_item : EntryKind → Setup → EntrySummary → List Data
entry_item kind s it = option_map_or (begun_item kind s (entry_name it)) it.extent []

abbrev pub entry_items : EntryKind → Setup → List EntrySummary → List Data
entry_items kind s all = flat_map (entry_item kind s) all

abbrev pub entries_data : EntryKind → Setup → List EntrySummary → Data
entries_data kind s all = list_of (entry_items kind s all)

-- ---- all of them

abbrev pub returns_data : Setup → RestartSummary → Data
returns_data s r = list_of (entry_items entry.Restart s r.own.items ++ entry_items entry.CrashReturn s r.of_crashes.items ++ entry_items entry.LeaveReturn s r.of_leaves.items)

-- crashes stand by their members' numbers where each entry stands for one
abbrev pub crash_part : Setup → List EntrySummary → Data
crash_part s all = if list_any is_several all then entries_data entry.Crash s all else crashes_data s

abbrev pub summary_data : Setup → ScriptSummary → Data
summary_data s script =
    restarted_with (crash_part s script.crashes.items) (entries_data entry.Leave s script.leaves.items) (returns_data s script.restarts)
    (entries_data entry.Slow s script.slows.items) (cuts_data s) (entries_data entry.Pause s script.pauses.items) (entries_data entry.Block s script.blocks.items)

-- what happens: entry by entry of a text of version 4, which is summed up; of another text each plain entry
abbrev pub script_data_by : Setup → Option ScriptSummary → Data
script_data_by s None = script_data s
script_data_by s (Some script) = summary_data s script
