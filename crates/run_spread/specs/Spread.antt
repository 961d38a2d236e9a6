-- How the news of crashes spread: for each crash that is watched, how many of those who stay had suspected the member, and
-- how many declared it dead, by the time since it crashed.
use Rattle.std.specs.Prelude.{ℕ, Bool, ◌+◌, ◌-◌, ◌/◌, ◌&&◌, not, nat_lt, nat_le, nat_eq, if◌then◌else◌, Option, Some, None, List, [], ◌++◌, codes, decimal, map, flat_map, filter_map, count_by, max, option_map, unwrap_or, slice_index_or}
use Rattle.std.specs.List.{range_with_len, fold}
use Rattle.std.specs.Option.{is_some, option_map_or}
use Rattle.scenario.specs.Setup.{Setup, member_count, name_of, leave_of}
use Rattle.trace.specs.declared.row.What.{What}
use Rattle.trace.specs.declared.row.What.TheVariants as what
use Rattle.trace.specs.declared.row.Row.{Row}
use Rattle.figures.specs.Settings.{rank, at_rank}
use Rattle.series.specs.Watched.{at_by, crashes, crashed, watched}
use Rattle.series.specs.Stories.{heard}
use Rattle.drawing.specs.Axes.{axis_up, time_across}
use Rattle.drawing.specs.Escaped.{escaped}
use Rattle.drawing.specs.Legends.{entry}
use Rattle.drawing.specs.Shapes.{figure_opening, figure_end, plot_opening, plot_end, line, step_start}
use Rattle.member_timelines.specs.Heights.{axis_height}
use Rattle.run_spread.specs.declared.news.ShareTimes.{ShareTimes}
use Rattle.drawing.specs.Lengths.{time_alone}
use Rattle.ticks.specs.declared.tick.Tick.{Tick}

-- ---- when members learned of a crash

-- how long after a subject's crash, at a moment, a member learned of it, if it did: 0 where it held the subject so before
abbrev pub told_after : List Row → What → ℕ → ℕ → ℕ → Option ℕ
told_after rows kind subject from member = option_map (λ at. at - from) (heard kind subject member rows)

-- the same, where at each member's number stands when it did
abbrev pub learned : List (Option ℕ) → ℕ → ℕ → Option ℕ
learned moments from member = option_map (λ at. at - from) (slice_index_or moments member None)

-- the member stays: it neither crashes nor leaves by the end
abbrev pub stays : Setup → ℕ → Bool
stays s member = not (crashes s member) && not (is_some (at_by s.end (leave_of s member)))

-- how many stay
abbrev pub staying : Setup → ℕ
staying s = count_by (stays s) (range_with_len 0 (member_count s))

-- when those who stay learned of something, where it is known of each member whether and when it did
abbrev pub time_of_one : Setup → (ℕ → Option ℕ) → ℕ → Option ℕ
time_of_one s learned member = if stays s member then learned member else None

abbrev pub times : Setup → (ℕ → Option ℕ) → List ℕ
times s learned = filter_map (time_of_one s learned) (range_with_len 0 (member_count s))

-- the greatest of a number of each member
abbrev pub greatest_of_all : Setup → (ℕ → ℕ) → ℕ
greatest_of_all s number = fold (λ most member. max most (number member)) 0 (range_with_len 0 (member_count s))

-- how long it took until the last member learned of something, 0 where none did
abbrev pub last_learned : Setup → (ℕ → Option ℕ) → ℕ
last_learned s learned = greatest_of_all s (λ member. unwrap_or (learned member) 0)

-- how long after a member's crash the last other one learned of it, where the crash is watched
abbrev pub last_told : Setup → List Row → ℕ → ℕ → ℕ
last_told s rows subject from = max (last_learned s (told_after rows what.Suspect subject from)) (last_learned s (told_after rows what.Confirm subject from))

abbrev pub last_of : Setup → List Row → ℕ → ℕ
last_of s rows subject = option_map_or (last_told s rows subject) (watched s subject) 0

-- the same of all crashes that are watched
abbrev pub longest : Setup → List Row → ℕ
longest s rows = greatest_of_all s (last_of s rows)

-- ---- what is shown of these times

-- how many of these times have come by the end of each of 120 steps
abbrev pub come_by : List ℕ → ℕ → ℕ → ℕ
come_by times step place = count_by (λ time. nat_lt time (step_start step (place + 1))) times

unfoldable pub reached : List ℕ → ℕ → List ℕ
reached times step = map (come_by times step) (range_with_len 0 120)

-- by which of these times so many percent of so many members have learned of it, and by which the first one has
abbrev pub shares : ℕ → List ℕ → ShareTimes
shares staying times =
    record {
      first = at_rank 1 times;
      half = at_rank (rank 50 staying) times;
      nine_tenths = at_rank (rank 90 staying) times;
      nearly_all = at_rank (rank 99 staying) times;
      all = at_rank (rank 100 staying) times;
    }

-- ---- the figure

-- a plot begins, so wide and so high
unfoldable pub chart_opening : List ℕ → ℕ → ℕ → List ℕ
chart_opening name width most =
    codes "<div class=\"chart\">" ++ axis_up most
    ++ plot_opening (codes "") width most name (codes "How many members had suspected it, and how many had declared it dead, by the time since its crash.")

-- how many had suspected the member, and how many declared it dead, by the end of each step, in such a plot
unfoldable pub spread_chart : Option Tick → List ℕ → ℕ → ℕ → ℕ → List ℕ → List ℕ → List ℕ
spread_chart time name width most step suspected dead =
    chart_opening name width most ++ line (codes "suspect") suspected step most ++ line (codes "dead") dead step most
    ++ plot_end ++ time_across time width (codes "ticks since the crash") (codes "time since the crash") ++ codes "</div>"

-- a time, in units alone where it is known how long a tick lasts; a dash where there is none
abbrev pub time_cell : Option Tick → Option ℕ → List ℕ
time_cell time (Some after) = codes "<td>" ++ time_alone time after
time_cell time None = codes "<td>" ++ codes "-"

-- the times of shares, behind some words
unfoldable pub share_cells : Option Tick → ShareTimes → List ℕ
share_cells time shares = time_cell time shares.first ++ time_cell time shares.half ++ time_cell time shares.nine_tenths ++ time_cell time shares.nearly_all ++ time_cell time shares.all

unfoldable pub share_row : Option Tick → List ℕ → ShareTimes → List ℕ
share_row time words shares = codes "<tr><th scope=\"row\">" ++ words ++ codes "</th>" ++ share_cells time shares

-- what the table shows, and what its columns are
unfoldable pub share_heads : List ℕ
share_heads =
    codes "<div class=\"wide\"><table><caption>How long after the crash these shares of the members up had heard of it</caption><thead><tr><th scope=\"col\">of those up</th>"
    ++ codes "<th scope=\"col\">first</th><th scope=\"col\">50 %</th><th scope=\"col\">90 %</th><th scope=\"col\">99 %</th><th scope=\"col\">all</th></tr></thead><tbody>"

-- after which times shares of those who stay had suspected the member, and declared it dead
unfoldable pub share_table : Option Tick → ShareTimes → ShareTimes → List ℕ
share_table time suspected dead =
    share_heads ++ share_row time (codes "suspected it after") suspected ++ share_row time (codes "declared it dead after") dead ++ codes "</table></div>"

-- what is shown of the crash of a member of that name, where so many stay
unfoldable pub crash_part : Option Tick → List ℕ → ℕ → ℕ → List ℕ → ShareTimes → List ℕ → ShareTimes → List ℕ
crash_part time name staying step suspected suspecting dead confirming =
    codes "<div><h3>" ++ escaped name ++ codes "</h3>"
    ++ spread_chart time name (axis_height (step_start step 120)) (axis_height staying) step suspected dead
    ++ share_table time suspecting confirming ++ codes "</div>\n"

-- the same by when members suspected it and when they declared it dead
abbrev pub crash_text : Option Tick → Setup → List ℕ → ℕ → (ℕ → Option ℕ) → (ℕ → Option ℕ) → List ℕ
crash_text time s name step suspected dead =
    crash_part time name (staying s) step (reached (times s suspected) step) (shares (staying s) (times s suspected)) (reached (times s dead) step) (shares (staying s) (times s dead))

-- what is shown of a member that crashes at a moment, and of any member: nothing where its crash isn't watched
abbrev pub told_crash : Option Tick → Setup → List Row → ℕ → ℕ → ℕ → List ℕ
told_crash time s rows step member from = crash_text time s (name_of s member) step (told_after rows what.Suspect member from) (told_after rows what.Confirm member from)

abbrev pub watched_crash : Option Tick → Setup → List Row → ℕ → ℕ → List ℕ
watched_crash time s rows step member = option_map_or (told_crash time s rows step member) (watched s member) []

-- what the colours stand for, and what is counted
unfoldable pub spread_legend : List ℕ
spread_legend =
    codes "<ul class=\"legend\">" ++ entry (codes "suspect") (codes "have suspected it") ++ entry (codes "dead") (codes "have declared it dead")
    ++ codes "</ul><p class=\"soft\">A member that suspected it, or held it dead, when it crashed counts as having heard at once.</p>"

-- how many crashes aren't watched, where there are more than 12
unfoldable pub unwatched_words : ℕ → List ℕ
unwatched_words crashed = if nat_le crashed 12 then [] else codes "<p class=\"soft\">" ++ decimal (crashed - 12) ++ codes " more crashed; these are the first 12 by number.</p>"

-- the figure, in steps so long
unfoldable pub spread_figure : Option Tick → Setup → List Row → ℕ → List ℕ
spread_figure time s rows step =
    figure_opening (codes "spread") (codes "How the news of a crash spread") ++ spread_legend ++ unwatched_words (crashed s (member_count s))
    ++ codes "<div class=\"many\">" ++ flat_map (watched_crash time s rows step) (range_with_len 0 (member_count s)) ++ codes "</div>" ++ figure_end

-- the same, where somebody crashes: 120 steps hold the longest time
abbrev pub spread_text : Option Tick → Setup → List Row → List ℕ
spread_text time s rows = if nat_eq (crashed s (member_count s)) 0 then [] else spread_figure time s rows (longest s rows / 120 + 1)
