-- Axes: words beside the shapes, each at the place of its tick.
use Rattle.std.specs.Prelude.{ℕ, Bool, ◌+◌, ◌-◌, ◌*◌, ◌/◌, nat_lt, if◌then◌else◌, Option, Some, None, List, ◌++◌, codes}
use Rattle.std.specs.List.{flat_map, range_with_len}
use Rattle.drawing.specs.Escaped.{escaped, markup}
use Rattle.ticks.specs.declared.tick.Tick.{Tick}
use Rattle.drawing.specs.Lengths.{length_of, length_words}
use Rattle.drawing.specs.Numbers.{grouped, place}
use Rattle.drawing.specs.Rounds.{round_step, time_step}

-- what is drawn at each multiple of a step from 0 to `most`
abbrev pub at_ticks : (ℕ → List ℕ) → ℕ → ℕ → List ℕ
at_ticks drawn most step = flat_map (λ tick. drawn (tick * step)) (range_with_len 0 (most / step + 1))

-- a tick stands in the last sixteenth of its axis, where its words would reach beyond it
abbrev pub is_near_the_end : ℕ → ℕ → Bool
is_near_the_end most at = nat_lt (most - most / 16) at

-- a tick begins; the last one ends at its place
abbrev pub tick_opening : Bool → List ℕ
tick_opening last = if last then codes "<span class=\"last\" style=\"left:" else codes "<span style=\"left:"

-- a tick of an axis across
unfoldable pub tick_across : ℕ → ℕ → List ℕ
tick_across most at = tick_opening (is_near_the_end most at) ++ place at most ++ markup (codes "\">") ++ grouped at ++ markup (codes "</span>")

-- an axis across: its ticks, and what they count
unfoldable pub across_of : List ℕ → List ℕ → List ℕ
across_of ticks unit = markup (codes "<div class=\"across\" aria-hidden=\"true\">") ++ ticks ++ markup (codes "</div><p class=\"unit\">") ++ escaped unit ++ markup (codes "</p>")

-- one from 0 to `most`, with at most six ticks
abbrev pub axis_across : ℕ → List ℕ → List ℕ
axis_across most unit = across_of (at_ticks (tick_across most) most (round_step most 5)) unit

-- a tick of an axis of lengths of time across
unfoldable pub length_across : ℕ → ℕ → List ℕ
length_across most at = tick_opening (is_near_the_end most at) ++ place at most ++ markup (codes "\">") ++ length_words at ++ markup (codes "</span>")

-- an axis from 0 to a length, with at most five ticks, since their words are wider
abbrev pub lengths_across : ℕ → List ℕ → List ℕ
lengths_across most unit = across_of (at_ticks (length_across most) most (time_step most 4)) unit

-- an axis of time, where it isn't known how long a tick of the simulation lasts, or is: what it counts then has a name of its own
abbrev pub time_across : Option Tick → ℕ → List ℕ → List ℕ → List ℕ
time_across None most counted lasting = axis_across most counted
time_across (Some tick) most counted lasting = lengths_across (length_of tick most) lasting

-- a tick of an axis up
unfoldable pub tick_up : ℕ → ℕ → List ℕ
tick_up most at = markup (codes "<span style=\"bottom:") ++ place at most ++ markup (codes "\">") ++ grouped at ++ markup (codes "</span>")

-- a tick of an axis of lengths of time up
unfoldable pub length_up : ℕ → ℕ → List ℕ
length_up most at = markup (codes "<span style=\"bottom:") ++ place at most ++ markup (codes "\">") ++ length_words at ++ markup (codes "</span>")

-- an axis up
unfoldable pub up_of : List ℕ → List ℕ
up_of ticks = markup (codes "<div class=\"up\" aria-hidden=\"true\">") ++ ticks ++ markup (codes "</div>")

-- one from 0 to `most`, with at most five ticks
abbrev pub axis_up : ℕ → List ℕ
axis_up most = up_of (at_ticks (tick_up most) most (round_step most 4))

-- an axis of time up
abbrev pub time_up : Option Tick → ℕ → List ℕ
time_up None most = axis_up most
time_up (Some tick) most = up_of (at_ticks (length_up (length_of tick most)) (length_of tick most) (time_step (length_of tick most) 4))
