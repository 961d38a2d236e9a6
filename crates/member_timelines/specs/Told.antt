-- What happened to a member, in words.
use Rattle.std.specs.Prelude.{ℕ, Bool, true, false, ◌-◌, ◌^◌, ◌&&◌, ◌==◌, nat_lt, nat_le, if◌then◌else◌, Option, Some, None, List, ◌++◌, [], codes, min, sum_by, count_by, slice_get, find, flat_map, option_map}
use Rattle.std.specs.Option.{option_map_or}
use Rattle.std.specs.List.{range_with_len, last_or, list_any}
use Rattle.scenario.specs.Setup.{Setup, script_of}
use Rattle.scenario.specs.declared.script.ScriptKind.{ScriptKind}
use Rattle.scenario.specs.declared.script.ScriptKind.TheVariants.{Crash, Leave, Restart}
use Rattle.scenario.specs.declared.script.ScriptEvent.{ScriptEvent}
use Rattle.trace.specs.declared.row.Row.{Row}
use Rattle.trace.specs.declared.row.What.TheVariants as what
use Rattle.reports.specs.Rows.{rows_in_place, tells_of}
use Rattle.series.specs.declared.lines.TraceLine.{TraceLine}
use Rattle.series.specs.Spans.{span_count}
use Rattle.series.specs.Lines.{lines_of}
use Rattle.series.specs.Stories.{revives_in}
use Rattle.drawing.specs.Numbers.{grouped}
use Rattle.member_timelines.specs.Numbers.{by_number}
use Rattle.drawing.specs.Lengths.{time_text}
use Rattle.ticks.specs.declared.tick.Tick.{Tick}

-- when the member was first declared dead, after some words
abbrev pub from_first : Option Tick → List ℕ → Option TraceLine → List ℕ
from_first time words first = option_map_or (λ line. words ++ time_text time line.at) first []

-- how often others declared the member alive again, as far as 64 bits hold it
abbrev pub times_back : Setup → List Row → ℕ → ℕ
times_back s rows member = min (sum_by (λ span. count_by (revives_in s member span) (rows_in_place rows)) (range_with_len 0 (span_count s))) (2 ^ 64 - 1)

-- how often members declared it alive again
unfoldable pub again_words : ℕ → List ℕ
again_words times = codes ", declared alive again " ++ grouped times ++ by_number times (codes " time") (codes " times")

-- the same, where they did
abbrev pub back_words : ℕ → List ℕ
back_words times = if nat_lt 0 times then again_words times else []

-- how often members declared it dead while it was up
unfoldable pub death_words : ℕ → List ℕ
death_words times = codes "<b>" ++ grouped times ++ by_number times (codes " false death</b>") (codes " false deaths</b>")

-- the same, when they first did, and how often they declared it alive again
unfoldable pub wrongly_words : Option Tick → ℕ → ℕ → Option TraceLine → List ℕ
wrongly_words time times back first = death_words times ++ from_first time (codes ", first at ") first ++ back_words back

-- how and when it departed, after other words or alone
unfoldable pub departure_words : Option Tick → Bool → List ℕ → ℕ → List ℕ
departure_words time more words at = (if more then codes "; " else []) ++ words ++ time_text time at

-- when others first declared it dead
unfoldable pub found_at : Option Tick → ℕ → List ℕ
found_at time at = codes ", first declared dead at " ++ time_text time at

-- the same, where they did
abbrev pub found_words : Option Tick → Option TraceLine → List ℕ
found_words time (Some line) = found_at time line.at
found_words time None = codes ", never declared dead"

-- what became of a member that neither departed nor has a false death
unfoldable pub unharmed_words : Option TraceLine → List ℕ
unharmed_words (Some line) = codes "suspected, and refuted it"
unharmed_words None = codes "never declared dead"

-- its false deaths, where it has some
abbrev pub out_words : Option Tick → ℕ → ℕ → Option TraceLine → List ℕ
out_words time times back first = if nat_lt 0 times then wrongly_words time times back first else []

-- what happened to a member by its script
abbrev pub event_words : ScriptKind → List ℕ
event_words Crash = codes "crashed at "
event_words Leave = codes "left at "
event_words (Restart contact) = codes "restarted at "

-- the member departs so: it doesn't start again
abbrev pub is_departure : ScriptKind → Bool
is_departure Crash = true
is_departure Leave = true
is_departure (Restart contact) = false

-- it does so by the end
abbrev pub departs_by : ℕ → ScriptEvent → Bool
departs_by end event = is_departure event.kind && nat_le event.at end

-- when a member first departs, where it does by the end
abbrev pub first_departure : Setup → ℕ → Option ℕ
first_departure s member = option_map (λ event. event.at) (find (departs_by s.end) (script_of s member))

-- it is a crash
abbrev pub is_crash : ScriptKind → Bool
is_crash Crash = true
is_crash Leave = false
is_crash (Restart contact) = false

-- a member crashes by the event, then
abbrev pub crashes_at : ℕ → ScriptEvent → Bool
crashes_at at event = is_crash event.kind && event.at == at

-- how it departs then: at one moment a crash comes before a leave
abbrev pub departing_words : List ScriptEvent → ℕ → List ℕ
departing_words script at = if list_any (crashes_at at) script then codes "crashed at " else codes "left at "

-- how it first departed and when others declared it dead, after other words or alone; what became of it where it did neither crash nor leave
unfoldable pub departed_words : Option Tick → Bool → Option TraceLine → Option TraceLine → List ScriptEvent → Option ℕ → List ℕ
departed_words time out first last script (Some at) = departure_words time out (departing_words script at) at ++ found_words time first
departed_words time true first last script None = []
departed_words time false first last script None = unharmed_words last

-- the event is that departure, or another at its moment
abbrev pub is_told : Option ℕ → ScriptEvent → Bool
is_told departure event = is_departure event.kind && option_map_or (λ at. at == event.at) departure false

-- what else happened to the member by its script
abbrev pub later_words : Option Tick → ℕ → Option ℕ → ScriptEvent → List ℕ
later_words time end departure event =
    if is_told departure event then [] else if nat_le event.at end then departure_words time true (event_words event.kind) event.at else []

-- the first row that confirms that the member failed, and the last by which it refuted what was said of it
abbrev pub first_confirm : List Row → ℕ → Option TraceLine
first_confirm rows member = slice_get (lines_of (tells_of what.Confirm member) rows) 0

abbrev pub last_refute : List Row → ℕ → Option TraceLine
last_refute rows member = last_or None (lines_of (tells_of what.Refute member) rows)

-- what happened by the end to a member with so many false deaths
unfoldable pub story_words : Option Tick → Setup → List Row → ℕ → ℕ → List ℕ
story_words time s rows member wrongly =
    out_words time wrongly (times_back s rows member) (first_confirm rows member)
    ++ departed_words time (nat_lt 0 wrongly) (first_confirm rows member) (last_refute rows member) (script_of s member) (first_departure s member)
    ++ flat_map (later_words time s.end (first_departure s member)) (script_of s member)
