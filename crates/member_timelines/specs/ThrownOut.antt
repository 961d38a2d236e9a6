-- False deaths: who declared members dead that were up.
use Rattle.std.specs.Prelude.{ℕ, Bool, nat_lt, if◌then◌else◌, Option, Some, None, List, ◌++◌, [], codes, decimal, count_by, nat_eq, flat_map, take, min}
use Rattle.scenario.specs.Setup.{Setup, name_of}
use Rattle.trace.specs.declared.row.What.TheVariants as what
use Rattle.trace.specs.declared.row.Row.{Row}
use Rattle.reports.specs.Rows.{tells_of}
use Rattle.series.specs.declared.lines.TraceLine.{TraceLine}
use Rattle.drawing.specs.Numbers.{grouped}
use Rattle.drawing.specs.Escaped.{escaped}
use Rattle.drawing.specs.Shapes.{figure_opening, figure_end}
use Rattle.member_timelines.specs.declared.chosen.Chosen.{Chosen}
use Rattle.member_timelines.specs.Choice.{times_of}
use Rattle.member_timelines.specs.Told.{first_confirm, times_back}
use Rattle.drawing.specs.Lengths.{time_alone}
use Rattle.ticks.specs.declared.tick.Tick.{Tick}

-- when a claim was made, by whom, and on which line it stands
unfoldable pub claim_cells : Option Tick → Setup → Option TraceLine → List ℕ
claim_cells time s None = codes "<td>-<td>-<td>-"
claim_cells time s (Some line) = codes "<td>" ++ time_alone time line.at ++ codes "<td>" ++ escaped (name_of s line.member) ++ codes "<td>" ++ decimal line.number

-- a cell with a number
abbrev pub cell : ℕ → List ℕ
cell number = codes "<td>" ++ grouped number

-- the first cells of a row: of whom it is, and who first declared it dead
unfoldable pub first_cells : Option Tick → Setup → ℕ → Option TraceLine → List ℕ
first_cells time s member first = codes "<tr><th scope=\"row\">" ++ escaped (name_of s member) ++ codes "</th>" ++ claim_cells time s first

-- the row of a member with so many false deaths
unfoldable pub row : Option Tick → Setup → List Row → ℕ → ℕ → List ℕ
row time s rows member times =
    first_cells time s member (first_confirm rows member) ++ cell times ++ cell (times_back s rows member)
    ++ cell (count_by (tells_of what.Fail member) rows) ++ codes "\n"

-- the same for a member with a lane
abbrev pub row_of : Option Tick → Setup → List Row → Chosen → List ℕ
row_of time s rows chosen = row time s rows chosen.member (times_of chosen)

-- what the table shows, and what the columns are
unfoldable pub columns : List ℕ
columns =
    codes "<div class=\"wide\"><table><caption>Members that were declared dead although they were up</caption><thead><tr><th scope=\"col\">member</th>"
    ++ codes "<th scope=\"col\">first declared dead</th><th scope=\"col\">by</th><th scope=\"col\">line of the trace</th><th scope=\"col\">false deaths</th>"
    ++ codes "<th scope=\"col\">declared alive again</th><th scope=\"col\">failed probes of it</th></tr></thead><tbody>\n"

-- the table of these
unfoldable pub thrown_out_figure : Option Tick → Setup → List Row → List Chosen → List ℕ
thrown_out_figure time s rows lanes =
    figure_opening (codes "false-deaths") (codes "False deaths") ++ columns ++ flat_map (row_of time s rows) lanes ++ codes "</table></div>" ++ figure_end

-- a member with a lane has a false death
abbrev pub is_out : Chosen → Bool
is_out chosen = nat_lt 0 (times_of chosen)

-- the table of those of all with a lane that have a false death, which come first: 200 of them at most, and nothing where there are none
abbrev pub thrown_out_text : Option Tick → Setup → List Row → List Chosen → List ℕ
thrown_out_text time s rows all = if nat_eq (count_by is_out all) 0 then [] else thrown_out_figure time s rows (take (min (count_by is_out all) 200) all)
