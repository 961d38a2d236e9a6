-- The figure of lanes, and the lanes as a table.
use Rattle.std.specs.Prelude.{ℕ, Bool, ◌-◌, ◌*◌, ◌&&◌, ◌||◌, ◌==◌, nat_le, nat_eq, not, if◌then◌else◌, List, [], ◌++◌, codes, decimal, length, flat_map, take, max, slice_index, Option}
use Rattle.std.specs.List.{range_with_len}
use Rattle.scenario.specs.Setup.{Setup, name_of}
use Rattle.trace.specs.declared.row.Row.{Row}
use Rattle.series.specs.Spans.{span_width, span_count}
use Rattle.drawing.specs.Axes.{time_across}
use Rattle.drawing.specs.Escaped.{escaped}
use Rattle.drawing.specs.Legends.{entry}
use Rattle.drawing.specs.Shapes.{figure_opening, figure_end}
use Rattle.member_timelines.specs.declared.chosen.Chosen.{Chosen}
use Rattle.member_timelines.specs.Choice.{times_of}
use Rattle.member_timelines.specs.Numbers.{by_number}
use Rattle.member_timelines.specs.Heights.{before}
use Rattle.member_timelines.specs.Lanes.{lane, held_heights}
use Rattle.drawing.specs.Lengths.{lasting, moment_alone}
use Rattle.drawing.specs.Numbers.{grouped}
use Rattle.ticks.specs.declared.tick.Tick.{Tick}

-- an entry of the legend, where what it stands for is there
abbrev pub entry_where : Bool → List ℕ → List ℕ → List ℕ
entry_where there class words = if there then entry class words else []

-- what the colour of a pause stands for, where some member is blocked
abbrev pub pause_words : Bool → List ℕ
pause_words blocked = if blocked then codes "it is paused or blocked" else codes "it is paused"

-- what the colours of the lanes stand for, where some member is slow, paused, blocked or cut off
unfoldable pub lane_legend : Bool → Bool → Bool → Bool → List ℕ
lane_legend slow paused blocked cut =
    entry (codes "suspect") (codes "suspect it") ++ entry (codes "dead") (codes "have declared it dead") ++ entry_where slow (codes "slow") (codes "it is slow")
    ++ entry_where (paused || blocked) (codes "pause") (pause_words blocked) ++ entry_where cut (codes "cut") (codes "it is cut off")

-- how long a column of a lane is, for nothing is drawn narrower
unfoldable pub column_words : Option Tick → ℕ → List ℕ
column_words time width =
    codes "<p class=\"soft\">Each column is " ++ grouped width ++ by_number width (codes " tick") (codes " ticks") ++ lasting time width
    ++ codes " wide: a shorter suspicion is drawn as wide.</p>"

-- what the lanes show
unfoldable pub lane_words : Option Tick → Setup → List ℕ
lane_words time s =
    codes "<p class=\"soft\">One lane per member. Its height stands for all other members: how many of them suspect it, and how many have declared it dead.</p><ul class=\"legend\">"
    ++ lane_legend (not (nat_eq (length s.slows) 0)) (not (nat_eq (length s.pauses) 0)) (not (nat_eq (length s.blocks) 0)) (not (nat_eq (length s.cuts) 0))
    ++ codes "</ul><p class=\"soft\">Solid vertical line: the member crashes; dashed: it leaves or starts; dotted: others declare it alive again; dot: it refutes a claim.</p>"
    ++ column_words time (span_width s)

-- the axis of time
abbrev pub time_axis : Option Tick → Setup → List ℕ
time_axis time s = time_across time (max s.end 1) (codes "moment, in ticks") (codes "moment")

-- the same below the lanes
unfoldable pub lane_axis : Option Tick → Setup → List ℕ
lane_axis time s = codes "<div class=\"lane\">" ++ time_axis time s ++ codes "</div>"

-- how many more would have a lane, where 60 have one
unfoldable pub more_words : ℕ → List ℕ
more_words more = codes "<p class=\"soft\">" ++ decimal more ++ by_number more (codes " more member isn't shown.</p>") (codes " more members aren't shown.</p>")

abbrev pub lane_rest : ℕ → List ℕ
lane_rest all = if nat_le all 60 then [] else more_words (all - 60)

-- one row of the table: how many suspect a member from a moment on, and how many have declared it dead
unfoldable pub table_row : Option Tick → List ℕ → ℕ → ℕ → ℕ → List ℕ
table_row time name from suspected dead =
    codes "<tr><th scope=\"row\">" ++ escaped name ++ codes "</th><td>" ++ moment_alone time from ++ codes "<td>" ++ decimal suspected ++ codes "<td>" ++ decimal dead

-- the height of a span is the one before it
abbrev pub is_unchanged : List ℕ → ℕ → Bool
is_unchanged heights span = slice_index heights span == before heights span

-- the row of a span, where something changes in it
abbrev pub span_row : Option Tick → List ℕ → ℕ → List ℕ → List ℕ → ℕ → List ℕ
span_row time name width suspected dead span =
    if is_unchanged suspected span && is_unchanged dead span then [] else table_row time name (span * width) (slice_index suspected span) (slice_index dead span)

-- the rows of so many spans
abbrev pub span_rows : Option Tick → List ℕ → ℕ → ℕ → List ℕ → List ℕ → List ℕ
span_rows time name width spans suspected dead = flat_map (span_row time name width suspected dead) (range_with_len 0 spans)

-- a member's rows
abbrev pub member_rows : Option Tick → Setup → List Row → ℕ → List ℕ
member_rows time s rows member =
    span_rows time (name_of s member) (span_width s) (span_count s) (held_heights s rows member 1) (held_heights s rows member 2)

-- the lanes of these members as a table
unfoldable pub lane_table : Option Tick → Setup → List Row → List Chosen → List ℕ
lane_table time s rows lanes =
    codes "<details><summary>The lanes as a table</summary><div class=\"wide\"><table><caption>How many members suspect each member, and how many have declared it dead, from each moment at which that changes</caption>"
    ++ codes "<thead><tr><th scope=\"col\">member</th><th scope=\"col\">from moment</th><th scope=\"col\">suspect it</th><th scope=\"col\">have declared it dead</th></tr></thead><tbody>\n"
    ++ flat_map (λ chosen. member_rows time s rows chosen.member) lanes ++ codes "</table></div></details>"

-- one lane
abbrev pub lane_at : Option Tick → Setup → List Row → Chosen → List ℕ
lane_at time s rows chosen = lane time s rows chosen.member (times_of chosen)

-- the lanes of the first 60 of these, and the rest of the figure
unfoldable pub lanes_of : Option Tick → Setup → List Row → List Chosen → List ℕ
lanes_of time s rows all =
    lane_words time s ++ flat_map (lane_at time s rows) (take 60 all) ++ lane_axis time s ++ lane_rest (length all) ++ lane_table time s rows (take 60 all)

-- the figure of all that get a lane, in their order
unfoldable pub lanes_text : Option Tick → Setup → List Row → List Chosen → List ℕ
lanes_text time s rows all =
    figure_opening (codes "lanes") (codes "Who was suspected, and who was declared dead")
    ++ (if nat_eq (length all) 0 then codes "<p>No member was suspected, crashed, left, was slow or was paused.</p>" else lanes_of time s rows all)
    ++ figure_end
