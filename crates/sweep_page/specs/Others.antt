-- Other settings than one: those that beat it, and those of equal figures behind it.
use Rattle.std.specs.Prelude.{ℕ, Bool, true, false, ◌-◌, ◌==◌, ◌&&◌, nat_lt, if◌then◌else◌, min, List, [], ◌∷◌, ◌++◌, Option, Some, None, codes, length, slice_get}
use Rattle.std.specs.List.{flat_map, range_with_len}
use Rattle.std.specs.Option.{option_map_or}
use Rattle.goals.specs.Front.{beats}
use Rattle.goals.specs.Wants.{meets}
use Rattle.goals.specs.declared.want.Want.{Want}
use Rattle.sweep_plan.specs.Sweep.{KeyValues}
use Rattle.drawing.specs.Escaped.{markup}
use Rattle.drawing.specs.Numbers.{grouped}
use Rattle.figures.specs.declared.summary.SettingSummary.{SettingSummary}
use Rattle.sweep_cells.specs.Words.{number_words, swept_keys_at}

-- the setting at a place beats this one
abbrev pub beats_at : Bool → List SettingSummary → SettingSummary → ℕ → Bool
beats_at crashed settings one place = option_map_or (λ other. beats crashed other one) (slice_get settings place) false

abbrev pub beating_at : Bool → List SettingSummary → SettingSummary → ℕ → List ℕ
beating_at crashed settings one place = if beats_at crashed settings one place then place ∷ [] else []

-- where those that do stand
abbrev pub beating : Bool → List SettingSummary → SettingSummary → List ℕ
beating crashed settings one = flat_map (beating_at crashed settings one) (range_with_len 0 (length settings))

-- two numbers are the same, or there is none of either
abbrev pub is_same : Option ℕ → Option ℕ → Bool
is_same (Some a) (Some b) = a == b
is_same (Some a) None = false
is_same None (Some b) = false
is_same None None = true

-- two settings are as fast, or have as many false deaths where no run has a crash
abbrev pub are_as_fast : Bool → SettingSummary → SettingSummary → Bool
are_as_fast crashed a b = if crashed then is_same a.confirm_p50 b.confirm_p50 else (a.deaths == b.deaths && (a.deaths_low == b.deaths_low && a.deaths_high == b.deaths_high))

-- all figures of their items are equal
abbrev pub are_equal : Bool → SettingSummary → SettingSummary → Bool
are_equal crashed a b = are_as_fast crashed a b && (a.runs_with == b.runs_with && (a.runs == b.runs && is_same a.messages b.messages))

-- another setting meets all that is wanted, too
abbrev pub is_as_good : Bool → List Want → SettingSummary → SettingSummary → Bool
is_as_good crashed wants one other = meets wants other && are_equal crashed one other

-- so does the setting at a place, which stands behind that of this one
abbrev pub is_as_good_at : Bool → List Want → List SettingSummary → SettingSummary → ℕ → ℕ → Bool
is_as_good_at crashed wants settings one own place = option_map_or (λ other. nat_lt own place && is_as_good crashed wants one other) (slice_get settings place) false

abbrev pub as_good_at : Bool → List Want → List SettingSummary → SettingSummary → ℕ → ℕ → List ℕ
as_good_at crashed wants settings one own place = if is_as_good_at crashed wants settings one own place then place ∷ [] else []

-- where those that do stand
abbrev pub as_good : Bool → List Want → List SettingSummary → SettingSummary → ℕ → List ℕ
as_good crashed wants settings one own = flat_map (as_good_at crashed wants settings one own) (range_with_len 0 (length settings))

-- a setting by its number and its values
unfoldable pub other_item : List KeyValues → ℕ → List ℕ
other_item swept_keys place =
    markup (codes " <span class=\"number\">") ++ number_words place ++ markup (codes "</span> <code>") ++ swept_keys_at swept_keys place ++ markup (codes "</code>")

-- that of one of these places
unfoldable pub other_at : List KeyValues → List ℕ → ℕ → List ℕ
other_at swept_keys places nth = option_map_or (other_item swept_keys) (slice_get places nth) []

-- so many more of them aren't named
unfoldable pub unnamed_words : ℕ → List ℕ
unnamed_words more = markup (codes " and ") ++ grouped more ++ markup (codes " more")

unfoldable pub unnamed : ℕ → List ℕ
unnamed more = if more == 0 then [] else unnamed_words more

-- the first three of them
unfoldable pub others : List KeyValues → List ℕ → List ℕ
others swept_keys places = flat_map (other_at swept_keys places) (range_with_len 0 (min (length places) 3)) ++ unnamed (length places - 3)
