-- Lanes: one for each member that was accused, or that the scenario has something happen to.
use Rattle.std.specs.Prelude.{ℕ, Bool, ◌+◌, ◌-◌, ◌*◌, ◌/◌, ◌||◌, ◌==◌, nat_lt, nat_le, ◌&&◌, if◌then◌else◌, Option, List, ◌++◌, [], codes, flat_map, count_by, min, max}
use Rattle.std.specs.List.{range_with_len}
use Rattle.scenario.specs.Setup.{Setup, member_count, name_of, group_at, start_of, script_of}
use Rattle.scenario.specs.declared.script.ScriptKind.{ScriptKind}
use Rattle.scenario.specs.declared.script.ScriptKind.TheVariants.{Crash, Leave, Restart}
use Rattle.scenario.specs.declared.script.ScriptEvent.{ScriptEvent}
use Rattle.scenario.specs.declared.settings.Slow.{Slow}
use Rattle.scenario.specs.declared.settings.Cut.{Cut}
use Rattle.scenario.specs.declared.settings.Pause.{Pause}
use Rattle.trace.specs.declared.row.Row.{Row}
use Rattle.reports.specs.Rows.{rows_in_place}
use Rattle.series.specs.Spans.{span_width, span_count}
use Rattle.series.specs.Changes.{came, went}
use Rattle.series.specs.Stories.{claims_of, refutes_in, revives_in}
use Rattle.drawing.specs.Shapes.{plot_opening, plot_end, area, band, rule, dot}
use Rattle.drawing.specs.Escaped.{escaped}
use Rattle.member_timelines.specs.Told.{story_words}
use Rattle.member_timelines.specs.Heights.{heights, stacked, flat}
use Rattle.ticks.specs.declared.tick.Tick.{Tick}

-- how many others each member has, or 1 where it is alone: so high is a lane
abbrev pub others : Setup → ℕ
others s = max (member_count s - 1) 1

-- a lane is so wide: the moments from 0 to the end
abbrev pub moments : Setup → ℕ
moments s = s.end + 1

-- a band over a time, as far as the run goes
abbrev pub time_band : List ℕ → Setup → ℕ → ℕ → List ℕ
time_band class s from until = band class (min from (moments s)) (min until (moments s)) (others s)

-- the time in which the member is slow
abbrev pub slow_band : Setup → ℕ → Slow → List ℕ
slow_band s member slow = if slow.member == member then time_band (codes "slow") s slow.from slow.until else []

-- the time in which its process is paused, or blocked
abbrev pub pause_band : Setup → ℕ → Pause → List ℕ
pause_band s member pause = if pause.member == member then time_band (codes "pause") s pause.from pause.until else []

-- a cut is one of the group's: of what its members send, or of what is sent to them
abbrev pub is_cut_of : ℕ → Cut → Bool
is_cut_of group cut = cut.from == group || cut.to == group

-- the time in which a group is cut off
abbrev pub cut_band : Setup → ℕ → Cut → List ℕ
cut_band s group cut = if is_cut_of group cut then time_band (codes "cut") s cut.at cut.until else []

-- when the member was slow, paused, blocked and cut off
unfoldable pub bands : Setup → ℕ → List ℕ
bands s member =
    flat_map (slow_band s member) s.slows ++ flat_map (pause_band s member) s.pauses ++ flat_map (pause_band s member) s.blocks
    ++ flat_map (cut_band s (group_at s.groups member)) s.cuts

-- how high a lane's span is for a state: how many others hold the member so
abbrev pub held_heights : Setup → List Row → ℕ → ℕ → List ℕ
held_heights s rows member state =
    heights (λ span. came state span (claims_of s member rows)) (λ span. went state span (claims_of s member rows)) (span_count s) 0 (others s)

-- two areas: how many have declared the member dead and, on top of that, how many suspect it
abbrev pub stacked_areas : Setup → List ℕ → List ℕ → List ℕ
stacked_areas s dead suspected =
    area (codes "suspect") dead (stacked dead suspected (others s)) (span_width s) (moments s) (others s)
    ++ area (codes "dead") (flat (span_count s)) dead (span_width s) (moments s) (others s)

-- the same of a member
unfoldable pub areas : Setup → List Row → ℕ → List ℕ
areas s rows member = stacked_areas s (held_heights s rows member 2) (held_heights s rows member 1)

-- the member starts within the run
abbrev pub start_rule : Setup → ℕ → List ℕ
start_rule s at = if nat_lt 0 at && nat_le at s.end then rule (codes "start") at (others s) else []

-- by what class of rule it is drawn that a member crashes, leaves or starts again
abbrev pub event_class : ScriptKind → List ℕ
event_class Crash = codes "crash"
event_class Leave = codes "leave"
event_class (Restart contact) = codes "start"

-- it does so, where that is by the end
abbrev pub event_rule : Setup → ScriptEvent → List ℕ
event_rule s event = if nat_le event.at s.end then rule (event_class event.kind) event.at (others s) else []

-- the middle of a span
abbrev pub middle : Setup → ℕ → ℕ
middle s span = span * span_width s + span_width s / 2

-- in this span the member refuted what was said of it
abbrev pub refute_dot : Setup → List Row → ℕ → ℕ → List ℕ
refute_dot s rows member span = if nat_lt 0 (count_by (refutes_in s member span) rows) then dot (codes "refute") (middle s span) (others s) else []

-- in this span others declared it alive again
abbrev pub back_rule : Setup → List Row → ℕ → ℕ → List ℕ
back_rule s rows member span = if nat_lt 0 (count_by (revives_in s member span) (rows_in_place rows)) then rule (codes "back") (middle s span) (others s) else []

-- what happened to the member and what it did
unfoldable pub marks : Setup → List Row → ℕ → List ℕ
marks s rows member =
    start_rule s (start_of s member) ++ flat_map (event_rule s) (script_of s member)
    ++ flat_map (back_rule s rows member) (range_with_len 0 (span_count s)) ++ flat_map (refute_dot s rows member) (range_with_len 0 (span_count s))

-- the description of a lane for a screen reader
abbrev pub lane_description : List ℕ
lane_description = codes "Over time, how many other members suspect it and how many have declared it dead."

-- the lane of a member of that name begins
unfoldable pub lane_opening : Setup → List ℕ → List ℕ
lane_opening s name =
    codes "<div class=\"lane\"><div class=\"name\">" ++ escaped name ++ codes "</div>" ++ plot_opening (codes "") (moments s) (others s) name lane_description

-- what is drawn of a member
unfoldable pub lane_plot : Setup → List Row → ℕ → List ℕ
lane_plot s rows member = lane_opening s (name_of s member) ++ bands s member ++ areas s rows member ++ marks s rows member ++ plot_end

-- the lane of a member with so many false deaths
unfoldable pub lane : Option Tick → Setup → List Row → ℕ → ℕ → List ℕ
lane time s rows member wrongly =
    lane_plot s rows member
    ++ codes "<div class=\"told\">" ++ story_words time s rows member wrongly ++ codes "</div></div>\n"
