-- Members that come back: a member takes for alive again one that it held to have failed, as memberlist's rules allow.
use Rattle.std.specs.Prelude.{ℕ, Bool, false, ◌&&◌, ◌==◌, None, List, [], ◌∷◌, filter, count_by}
use Rattle.std.specs.Option.{option_map_or}
use Rattle.std.specs.List.{last_or, list_any}
use Rattle.trace.specs.declared.row.What.{What}
use Rattle.trace.specs.declared.row.What.TheVariants as what
use Rattle.trace.specs.declared.row.Row.{Row}
use Rattle.trace_rows.specs.Rows.{Placed, rows_in_place, has_kind, is_about}

-- what a member may hold of another, as a row reports it
abbrev pub views : List What
views = what.Alive ∷ what.Suspect ∷ what.Confirm ∷ []

-- the row reports what its member holds from now on
abbrev pub is_view : Row → Bool
is_view row = list_any (λ view. has_kind view row) views

-- what this member holds of this subject
abbrev pub is_view_of : ℕ → ℕ → Row → Bool
is_view_of member subject row = is_view row && ((row.member == member) && is_about subject row)

-- by the last of these rows that report what the member holds of the subject, it holds it to have failed
abbrev pub holds_failed : List Row → ℕ → ℕ → Bool
holds_failed rows member subject = option_map_or (has_kind what.Confirm) (last_or None (filter (is_view_of member subject) rows)) false

-- whom a row takes for alive is held to have failed by its member, where these are who holds whom so
abbrev pub is_back : (ℕ → ℕ → Bool) → Row → Bool
is_back failed row = has_kind what.Alive row && option_map_or (failed row.member) row.about false

-- the row takes for alive one that its member held to have failed by the rows before it
abbrev pub is_revival : Placed → Bool
is_revival p = is_back (holds_failed p.earlier) p.row

-- how many such rows a trace has
abbrev pub revivals : List Row → ℕ
revivals rows = count_by is_revival (rows_in_place rows)
