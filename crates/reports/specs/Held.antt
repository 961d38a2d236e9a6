-- What is kept of who holds whom to have failed.
use Rattle.std.specs.Prelude.{◌≡◌, ℕ, ◌<◌, Bool, true, false, ◌&&◌, ◌==◌, List, IfSome, IsSomeAnd, length, slice_get, slice_index_or, if◌then◌else◌}
use Rattle.std.specs.Option.{option_map_or}
use Rattle.trace.specs.declared.row.What.TheVariants as what
use Rattle.trace.specs.declared.row.Row.{Row}
use Rattle.reports.specs.declared.pairs.Marks.{Marks}
use Rattle.reports.specs.declared.pairs.Pairs.{Pairs}
use Rattle.reports.specs.declared.revivals.Revivals.{Revivals}
use Rattle.trace_rows.specs.Rows.{has_kind}
use Rattle.reports.specs.Revivals.{is_view_of, holds_failed, revivals}

-- the places that are marked
abbrev pub is_marked : Marks → ℕ → Bool
is_marked marks place = slice_index_or marks.marks.items place false

-- the pairs that are marked
abbrev pub are_marked : Pairs → ℕ → ℕ → Bool
are_marked pairs first second = option_map_or (λ marks. is_marked marks first) (slice_get pairs.columns.items second) false

-- there is a place for a pair
abbrev pub HasPlace : Pairs → ℕ → ℕ → Type 0
HasPlace pairs first second = IsSomeAnd (slice_get pairs.columns.items second) (λ marks. first < length marks.marks.items)

-- the same pairs are marked, but this one, which is or isn't
abbrev pub marked_with : ℕ → ℕ → Bool → (ℕ → ℕ → Bool) → ℕ → ℕ → Bool
marked_with first second marked pairs a b = if (first == a) && (second == b) then marked else pairs a b

-- who holds whom to have failed
abbrev pub failed_of : Revivals → ℕ → ℕ → Bool
failed_of r = are_marked r.failed

-- the same after one row more
abbrev pub failed_with : Row → (ℕ → ℕ → Bool) → ℕ → ℕ → Bool
failed_with row failed member subject = if is_view_of member subject row then has_kind what.Confirm row else failed member subject

-- there is a place for the member that a row reports to have failed
abbrev pub HasPlaceFor : Revivals → Row → Type 0
HasPlaceFor r row = has_kind what.Confirm row ≡ true → IfSome row.about (HasPlace r.failed row.member)

-- what is kept is what these rows report
pub record AreRevivalsOf (r : Revivals) (rows : List Row) : Type 0 where
  pub all : r.count ≡ revivals rows
  pub held : (member subject : ℕ) → failed_of r member subject ≡ holds_failed rows member subject
