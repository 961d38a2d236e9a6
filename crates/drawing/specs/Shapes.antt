-- Shapes in the units of the data. SVG counts from the top, so a height h of at most `most` stands at `most` - h.
use Rattle.std.specs.Prelude.{ℕ, ◌+◌, ◌-◌, ◌*◌, ◌/◌, ◌^◌, ◌==◌, nat_le, if◌then◌else◌, List, [], ◌∷◌, ◌++◌, codes, decimal, length, min, slice_index}
use Rattle.std.specs.List.{flat_map, range_with_len}
use Rattle.drawing.specs.Escaped.{escaped}

-- a section with a name, and its heading, begin
unfoldable pub section_opening : List ℕ → List ℕ
section_opening id = codes "<section id=\"" ++ id ++ codes "\"><h2>"

-- a figure begins, with a name and a heading
unfoldable pub figure_opening : List ℕ → List ℕ → List ℕ
figure_opening id heading = section_opening id ++ escaped heading ++ codes "</h2>\n"

-- a figure ends
unfoldable pub figure_end : List ℕ
figure_end = codes "</section>\n"

-- the shapes of a plot begin, which are stretched over the room that there is
unfoldable pub svg_opening : List ℕ → ℕ → ℕ → List ℕ
svg_opening class width height =
    codes "<svg class=\"plot " ++ class ++ codes "\" viewBox=\"0 0 " ++ decimal width ++ codes " " ++ decimal height ++ codes "\" preserveAspectRatio=\"none\" role=\"img\">"

-- a plot begins, so wide and so high, with the words that a screen reader reads out
unfoldable pub plot_opening : List ℕ → ℕ → ℕ → List ℕ → List ℕ → List ℕ
plot_opening class width height title description =
    svg_opening class width height ++ codes "<title>" ++ escaped title ++ codes "</title><desc>" ++ escaped description ++ codes "</desc>"

-- a plot ends
unfoldable pub plot_end : List ℕ
plot_end = codes "</svg>"

-- a box of a path, between two places and two heights
abbrev pub corners : ℕ → ℕ → ℕ → ℕ → List ℕ
corners from to lower upper =
    codes "M" ++ decimal from ++ codes " " ++ decimal lower ++ codes "V" ++ decimal upper ++ codes "H" ++ decimal to ++ codes "V" ++ decimal lower

-- The part of an area over one of equal steps, from a base to a top: a box that the plot's width cuts off; none where the top is no higher.
unfoldable pub area_step : ℕ → ℕ → ℕ → ℕ → ℕ → ℕ → List ℕ
area_step step width most place base top =
    if nat_le top base then [] else corners (min (place * step) width) (min (min (place * step) width + step) width) (most - base) (most - top)

-- a path begins
abbrev pub path_opening : List ℕ → List ℕ
path_opening class = codes "<path class=\"" ++ class ++ codes "\" d=\""

-- the parts of an area over equal steps, from a base to a top in each
abbrev pub area_steps : List ℕ → List ℕ → ℕ → ℕ → ℕ → List ℕ
area_steps bases tops step width most =
    flat_map (λ place. area_step step width most place (slice_index bases place) (slice_index tops place)) (range_with_len 0 (min (length bases) (length tops)))

-- an area over such steps
unfoldable pub area : List ℕ → List ℕ → List ℕ → ℕ → ℕ → ℕ → List ℕ
area class bases tops step width most =
    path_opening class ++ area_steps bases tops step width most ++ codes "\"/>"

-- a corner of a line: across to a place, and up or down to a height
abbrev pub corner : ℕ → ℕ → List ℕ
corner at upper = codes "H" ++ decimal at ++ codes "V" ++ decimal upper

-- where a step of a line begins; no coordinate is past 64 bits
abbrev pub step_start : ℕ → ℕ → ℕ
step_start step place = min (place * step) (2 ^ 64 - 1)

-- a line turns where a step's height is not the last one
unfoldable pub turn : ℕ → ℕ → ℕ → ℕ → ℕ → List ℕ
turn step most place last height = if height == last then [] else corner (step_start step place) (most - height)

-- a line begins at the height 0, and ends at a place
abbrev pub line_opening : List ℕ → ℕ → List ℕ
line_opening class most = codes "<path class=\"line " ++ class ++ codes "\" d=\"M0 " ++ decimal most

abbrev pub line_end : ℕ → List ℕ
line_end end = codes "H" ++ decimal end ++ codes "\"/>"

-- the turns of a line of equal steps of these heights; the height before the first one is 0
abbrev pub turns : List ℕ → ℕ → ℕ → List ℕ
turns heights step most =
    flat_map (λ place. turn step most place (slice_index (0 ∷ heights) place) (slice_index heights place)) (range_with_len 0 (length heights))

-- such a line
unfoldable pub line : List ℕ → List ℕ → ℕ → ℕ → List ℕ
line class heights step most =
    line_opening class most ++ turns heights step most ++ line_end (step_start step (length heights))

-- a rectangle
abbrev pub rectangle : List ℕ → ℕ → ℕ → ℕ → ℕ → List ℕ
rectangle class from top width height =
    codes "<rect class=\"" ++ class ++ codes "\" x=\"" ++ decimal from ++ codes "\" y=\"" ++ decimal top
    ++ codes "\" width=\"" ++ decimal width ++ codes "\" height=\"" ++ decimal height ++ codes "\"/>"

-- a bar from one height to another; none of its sides is below 0
unfoldable pub bar : List ℕ → ℕ → ℕ → ℕ → ℕ → ℕ → List ℕ
bar class from to lower upper most = rectangle class from (most - upper) (to - from) (upper - lower)

-- a band over the whole height
abbrev pub band : List ℕ → ℕ → ℕ → ℕ → List ℕ
band class from to most = bar class from to 0 most most

-- an upright rule over the whole height
unfoldable pub rule : List ℕ → ℕ → ℕ → List ℕ
rule class at most = codes "<path class=\"rule " ++ class ++ codes "\" d=\"M" ++ decimal at ++ codes " 0V" ++ decimal most ++ codes "\"/>"

-- a round mark at a place and a height
abbrev pub mark : List ℕ → ℕ → ℕ → List ℕ
mark class at upper = codes "<path class=\"" ++ class ++ codes "\" d=\"M" ++ decimal at ++ codes " " ++ decimal upper ++ codes "h0\"/>"

-- a dot in the middle of the height, on a halo
unfoldable pub dot : List ℕ → ℕ → ℕ → List ℕ
dot class at most = mark (codes "halo") at (most / 2) ++ mark (codes "dot " ++ class) at (most / 2)
