-- Claims that a member failed though it had not departed, which SWIM and Lifeguard call false positives.
use Rattle.std.specs.Prelude.{ℕ, Bool, false, ◌&&◌, ◌==◌, not, List, [], ◌∷◌, map, filter, flat_map, count_by}
use Rattle.std.specs.Option.{option_map_or}
use Rattle.std.specs.List.{list_any}
use Rattle.scenario.specs.Setup.{Setup, extra_of}
use Rattle.trace.specs.declared.row.What.{What}
use Rattle.trace.specs.declared.row.What.TheVariants as what
use Rattle.trace.specs.declared.row.Row.{Row}
use Rattle.trace_rows.specs.Rows.{Placed, rows_in_place, has_kind}

-- the ways in which members depart
abbrev pub ways_to_depart : List What
ways_to_depart = what.Crash ∷ what.Leave ∷ []

-- the one way that version 1 of the format has
abbrev pub first_ways_to_depart : List What
first_ways_to_depart = what.Crash ∷ []

-- the members that depart in one way in these rows
abbrev pub departed_by : List Row → What → List ℕ
departed_by rows way = map (λ row. row.member) (filter (has_kind way) rows)

-- the members that depart in any of these ways in these rows
abbrev pub departed_in : List What → List Row → List ℕ
departed_in ways rows = flat_map (departed_by rows) ways

-- the row is about one of these members
abbrev pub is_about_one : List ℕ → Row → Bool
is_about_one members row = option_map_or (λ about. list_any (λ member. member == about) members) row.about false

-- the row claims this of a member that isn't one of those that departed
abbrev pub is_false_claim : What → List ℕ → Row → Bool
is_false_claim claim departed row = has_kind claim row && not (is_about_one departed row)

-- the row claims this of a member, and no row earlier in the trace reports that this member departed in one of these ways
abbrev pub is_false_positive : List What → What → Placed → Bool
is_false_positive ways claim p = is_false_claim claim (departed_in ways p.earlier) p.row

-- the member whose row it is isn't slow at the row's moment
abbrev pub is_healthy : Setup → Row → Bool
is_healthy s row = extra_of s row.member row.at == 0

-- a false positive at a healthy member
abbrev pub is_healthy_false_positive : Setup → List What → What → Placed → Bool
is_healthy_false_positive s ways claim p = is_false_positive ways claim p && is_healthy s p.row

-- how many false positives of this claim a trace has, and how many of them are at healthy members
abbrev pub false_positives : List What → What → List Row → ℕ
false_positives ways claim rows = count_by (is_false_positive ways claim) (rows_in_place rows)

abbrev pub healthy_false_positives : Setup → List What → What → List Row → ℕ
healthy_false_positives s ways claim rows = count_by (is_healthy_false_positive s ways claim) (rows_in_place rows)
