-- What happens in a scenario of version 4, entry by entry as its text writes them. An entry that stands for several plain ones has
-- one line: how many they are, the first and the last of them.
use Rattle.std.specs.Prelude.{ℕ, nat_eq, nat_le, if◌then◌else◌, List, [], ◌++◌, codes, decimal, flat_map, Option, Some, None}
use Rattle.std.specs.List.{list_any}
use Rattle.std.specs.Option.{option_map_or}
use Rattle.scenario.specs.Setup.{Setup, name_of}
use Rattle.script_summary.specs.Entries.{is_several, name_of as entry_name}
use Rattle.script_summary.specs.declared.happening.Happening.{Happening}
use Rattle.script_summary.specs.declared.extent.Extent.{Extent}
use Rattle.script_summary.specs.declared.entries.EntrySummary.{EntrySummary}
use Rattle.script_summary.specs.declared.summary.RestartSummary.{RestartSummary}
use Rattle.script_summary.specs.declared.summary.ScriptSummary.{ScriptSummary}
use Rattle.meaning_text.specs.Lines.{all_crash_lines, contact_text, cut_line}
use Rattle.meaning_text.specs.declared.kinds.EntryKind.{EntryKind}
use Rattle.meaning_text.specs.declared.kinds.EntryKind.TheVariants as entry

-- ---- words

-- the word of an entry that stands for one
unfoldable pub word_of : EntryKind → List ℕ
word_of entry.Crash = codes "crash"
word_of entry.Leave = codes "leave"
word_of entry.Restart = codes "restart"
word_of entry.CrashReturn = codes "restart"
word_of entry.LeaveReturn = codes "restart"
word_of entry.Slow = codes "slow"
word_of entry.Pause = codes "pause"
word_of entry.Block = codes "block"

-- of one that stands for several
unfoldable pub words_of : EntryKind → List ℕ
words_of entry.Crash = codes "crash"
words_of entry.Leave = codes "leave"
words_of entry.Restart = codes "restart"
words_of entry.CrashReturn = codes "restart of crash"
words_of entry.LeaveReturn = codes "restart of leave"
words_of entry.Slow = codes "slow"
words_of entry.Pause = codes "pause"
words_of entry.Block = codes "block"

-- ---- a plain entry

-- who, and when
unfoldable pub moment_text : Setup → Happening → List ℕ
moment_text s it = name_of s it.member ++ codes " " ++ decimal it.from

-- who starts again, when, and whom it asks to let it join
unfoldable pub again_text : Setup → Happening → List ℕ
again_text s it = moment_text s it ++ contact_text s it.contact

-- who, from when until when
unfoldable pub span_text : Setup → Happening → List ℕ
span_text s it = name_of s it.member ++ codes " from " ++ decimal it.from ++ codes " until " ++ decimal it.until

-- by how much it is slow
unfoldable pub extra_text : ℕ → List ℕ
extra_text extra = codes " extra " ++ decimal extra

unfoldable pub slowed_text : Setup → Happening → List ℕ
slowed_text s it = span_text s it ++ extra_text it.extra

abbrev pub happening_text : EntryKind → Setup → Happening → List ℕ
happening_text entry.Crash s it = moment_text s it
happening_text entry.Leave s it = moment_text s it
happening_text entry.Restart s it = again_text s it
happening_text entry.CrashReturn s it = again_text s it
happening_text entry.LeaveReturn s it = again_text s it
happening_text entry.Slow s it = slowed_text s it
happening_text entry.Pause s it = span_text s it
happening_text entry.Block s it = span_text s it

-- ---- an entry of the text

-- the line of one that stands for one
unfoldable pub single_line : EntryKind → Setup → Happening → List ℕ
single_line kind s it = word_of kind ++ codes " " ++ happening_text kind s it ++ codes "\n"

-- its name, where it has one
unfoldable pub name_text : Option (List ℕ) → List ℕ
name_text None = []
name_text (Some name) = codes " " ++ name

-- how many plain entries it stands for
unfoldable pub count_text : ℕ → List ℕ
count_text count = codes " entries " ++ decimal count

-- the line of one that stands for several
unfoldable pub several_line : EntryKind → Setup → Option (List ℕ) → Extent → List ℕ
several_line kind s name e =
    words_of kind ++ name_text name ++ count_text e.count ++ codes " first " ++ happening_text kind s e.first ++ codes " last " ++ happening_text kind s e.last ++ codes "\n"

abbrev pub extent_line : EntryKind → Setup → Option (List ℕ) → Extent → List ℕ
extent_line kind s name e = if nat_eq e.count 1 then single_line kind s e.first else several_line kind s name e

-- an entry happens if its first one begins by the end
abbrev pub begun_line : EntryKind → Setup → Option (List ℕ) → Extent → List ℕ
begun_line kind s name e = if nat_le e.first.from s.end then extent_line kind s name e else []

abbrev pub entry_line : EntryKind → Setup → EntrySummary → List ℕ
entry_line kind s it = option_map_or (begun_line kind s (entry_name it)) it.extent []

abbrev pub entry_lines : EntryKind → Setup → List EntrySummary → List ℕ
entry_lines kind s all = flat_map (entry_line kind s) all

-- ---- all of them

-- crashes stand by their members' numbers where each entry stands for one
abbrev pub crash_part : Setup → List EntrySummary → List ℕ
crash_part s all = if list_any is_several all then entry_lines entry.Crash s all else all_crash_lines s

unfoldable pub return_lines : Setup → RestartSummary → List ℕ
return_lines s r = entry_lines entry.Restart s r.own.items ++ entry_lines entry.CrashReturn s r.of_crashes.items ++ entry_lines entry.LeaveReturn s r.of_leaves.items

-- who crashes, leaves and starts again
unfoldable pub gone_lines : Setup → ScriptSummary → List ℕ
gone_lines s script = crash_part s script.crashes.items ++ entry_lines entry.Leave s script.leaves.items ++ return_lines s script.restarts

-- who is slow, which links are cut, who is paused and blocked
unfoldable pub lasting_lines : Setup → ScriptSummary → List ℕ
lasting_lines s script =
    entry_lines entry.Slow s script.slows.items ++ flat_map (cut_line s) s.cuts ++ entry_lines entry.Pause s script.pauses.items ++ entry_lines entry.Block s script.blocks.items

unfoldable pub summary_lines : Setup → ScriptSummary → List ℕ
summary_lines s script = gone_lines s script ++ lasting_lines s script
