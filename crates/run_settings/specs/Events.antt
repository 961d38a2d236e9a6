-- What the scenario has happen: crashes, leaves, restarts, slow times, pauses and blocks of members, and cuts.
use Rattle.std.specs.Prelude.{ℕ, ◌==◌, nat_lt, if◌then◌else◌, Option, Some, None, List, [], ◌++◌, codes, flat_map, slice_get}
use Rattle.std.specs.List.{range_with_len}
use Rattle.std.specs.Option.{option_map_or}
use Rattle.scenario.specs.Setup.{Setup, Group, member_count, name_of, script_of}
use Rattle.scenario.specs.declared.script.ScriptEvent.{ScriptEvent}
use Rattle.scenario.specs.declared.script.ScriptKind.{ScriptKind}
use Rattle.scenario.specs.declared.script.ScriptKind.TheVariants.{Crash, Leave, Restart}
use Rattle.scenario.specs.declared.settings.Slow.{Slow}
use Rattle.scenario.specs.declared.settings.Pause.{Pause}
use Rattle.scenario.specs.declared.settings.Cut.{Cut}
use Rattle.drawing.specs.Escaped.{escaped}
use Rattle.drawing.specs.Numbers.{grouped}

-- the name of the group of a number
abbrev pub group_name : List Group → ℕ → List ℕ
group_name groups number = option_map_or (λ g. g.name) (slice_get groups number) []

-- the entry of a member of that name begins
unfoldable pub entry_opening : List ℕ → List ℕ
entry_opening name = codes "<li>" ++ escaped name

-- an entry ends by its time
unfoldable pub time_words : ℕ → ℕ → List ℕ
time_words from until = codes " from " ++ grouped from ++ codes " until " ++ grouped until ++ codes "</li>"

-- the name of a contact: one of the members
abbrev pub contact_name : Setup → ℕ → List ℕ
contact_name s contact = if nat_lt contact (member_count s) then name_of s contact else []

-- whom members ask to let them join, where they ask somebody
unfoldable pub contact_words : Setup → Option ℕ → List ℕ
contact_words s (Some contact) = codes ", contact " ++ escaped (contact_name s contact)
contact_words s None = []

-- what happens to a member by the script
abbrev pub kind_words : ScriptKind → List ℕ
kind_words Crash = codes ": crash at "
kind_words Leave = codes ": leave at "
kind_words (Restart contact) = codes ": restart at "

-- and whom it asks then
abbrev pub asked_words : Setup → ScriptKind → List ℕ
asked_words s Crash = []
asked_words s Leave = []
asked_words s (Restart contact) = contact_words s contact

-- how and when a member goes or starts again
unfoldable pub script_words : Setup → List ℕ → ScriptEvent → List ℕ
script_words s name e = entry_opening name ++ kind_words e.kind ++ grouped e.at ++ asked_words s e.kind ++ codes "</li>"

-- a time in which a member's messages take so much longer
unfoldable pub slow_words : List ℕ → Slow → List ℕ
slow_words name slow = entry_opening name ++ codes ": slow by " ++ grouped slow.extra ++ time_words slow.from slow.until

-- the same, where it is the member's
abbrev pub slow_entry : List ℕ → ℕ → Slow → List ℕ
slow_entry name member slow = if slow.member == member then slow_words name slow else []

-- a time in which a member is paused
unfoldable pub pause_words : List ℕ → Pause → List ℕ
pause_words name pause = entry_opening name ++ codes ": paused" ++ time_words pause.from pause.until

-- the same, where it is the member's
abbrev pub pause_entry : List ℕ → ℕ → Pause → List ℕ
pause_entry name member pause = if pause.member == member then pause_words name pause else []

-- a time in which a member is blocked
unfoldable pub block_words : List ℕ → Pause → List ℕ
block_words name block = entry_opening name ++ codes ": blocked" ++ time_words block.from block.until

-- the same, where it is the member's
abbrev pub block_entry : List ℕ → ℕ → Pause → List ℕ
block_entry name member block = if block.member == member then block_words name block else []

-- what happens to a member of that name with this script
unfoldable pub member_entries : Setup → ℕ → List ℕ → List ScriptEvent → List ℕ
member_entries s member name script =
    flat_map (script_words s name) script ++ flat_map (slow_entry name member) s.slows ++ flat_map (pause_entry name member) s.pauses
    ++ flat_map (block_entry name member) s.blocks

-- what happens to a member
abbrev pub member_events : Setup → ℕ → List ℕ
member_events s member = member_entries s member (name_of s member) (script_of s member)

-- a time in which nothing passes from the one group to the other
unfoldable pub cut_entry : Setup → Cut → List ℕ
cut_entry s cut = codes "<li>cut " ++ escaped (group_name s.groups cut.from) ++ codes " to " ++ escaped (group_name s.groups cut.to) ++ time_words cut.at cut.until

-- what happens to each member, in the order of their numbers, and the cuts
unfoldable pub events : Setup → List ℕ
events s = flat_map (member_events s) (range_with_len 0 (member_count s)) ++ flat_map (cut_entry s) s.cuts
