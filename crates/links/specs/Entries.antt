-- What the maps of the table of links give.
use Rattle.std.specs.Prelude.{◌≡◌, ◌≤◌, ◌+◌, ◌*◌, ◌%◌, length, ℕ, Bool, ◌&&◌, nat_le, nat_lt, nat_eq, List, [], map, filter, Option, unwrap_or, slice_get, get_or, zero, suc, Some, None, Vec}
use Rattle.std.specs.Option.{option_map_or, option_and_then}
use Rattle.std.specs.List.{find, slice_index_or}
use Rattle.std.specs.Map.{lookup}
use Rattle.std.specs.Ordering.{nat_cmp, ordering_then}
use Rattle.std.specs.declared.cmp.Ordering.{Ordering}
use Rattle.std.specs.BTreeMap.{is_at}
use Rattle.std.specs.declared.alloc.Global.{Global}
use Rattle.scenario.specs.declared.settings.Link.{Link}
use Rattle.scenario.specs.declared.settings.Slow.{Slow}
use Rattle.scenario.specs.declared.spells.Spell.{Spell}
use Rattle.links.specs.declared.routes.Routes.{Routes}
use Rattle.links.specs.declared.spans.times.SlowSpan.{SlowSpan}

-- pairs of groups are in order of the sender's, then of the receiver's
abbrev pub pair_cmp : ℕ × ℕ → ℕ × ℕ → Ordering
pair_cmp a b = ordering_then (nat_cmp a.0 b.0) (nat_cmp a.1 b.1)

-- the number of the path from one group to another, 0 if none names them: in the sender's row, at the receiver's place
abbrev pub number_in : List (Vec ℕ Global) → ℕ → ℕ → ℕ
number_in rows from to = option_map_or (λ row. get_or row.items to 0) (slice_get rows from) 0

-- the link of the path with this number, counted from 1
unfoldable pub numbered : List Link → ℕ → Option Link
numbered links zero = None
numbered links (suc k) = slice_get links k

-- each number that names a link names the same one as before
pub record KeepsNumbers (before after : List Link) : Type 0 where
  pub more : length before ≤ length after
  pub same : (number : ℕ) → number ≤ length before → numbered after number ≡ numbered before number

-- the link from one group to another, if a path names them
abbrev pub route : Routes → ℕ → ℕ → Option Link
route routes from to = numbered routes.links.items (number_in routes.rows.items from to)

-- the link from one member to another, by the numbers of their groups, else the link of all pairs
abbrev pub link_of_pair : List ℕ → Link → (ℕ → ℕ → Option Link) → ℕ → ℕ → Link
link_of_pair groups link route_of i j = unwrap_or (option_and_then (λ from. option_and_then (λ to. route_of from to) (slice_get groups j)) (slice_get groups i)) link

-- when and by how much an entry says that its member is slow
abbrev pub span_of : Slow → SlowSpan
span_of e = record { from = e.from; until = e.until; extra = e.extra }

-- the times of one member among all entries
abbrev pub slow_spans : ℕ → List Slow → List SlowSpan
slow_spans m es = map span_of (filter (λ e. nat_eq e.member m) es)

-- the times of a member in the table: none for whom there is no place
abbrev pub spans_in : List (List SlowSpan) → ℕ → List SlowSpan
spans_in table m = slice_index_or table m []

abbrev pub covers : ℕ → SlowSpan → Bool
covers t span = nat_le span.from t && nat_lt t span.until

-- by how many ticks the first of these times that covers a moment makes slow
abbrev pub extra_in : List SlowSpan → ℕ → ℕ
extra_in spans t = option_map_or (λ span. span.extra) (find (covers t) spans) 0

-- the times of two groups in the table
abbrev pub outages_in : List ((ℕ × ℕ) × List Spell) → ℕ → ℕ → List Spell
outages_in table from to = unwrap_or (lookup (is_at (pair_cmp (from, to))) table) []

-- the times in which the link from one member to another is cut, by the numbers of their groups
abbrev pub outages_of_pair : List ℕ → List ((ℕ × ℕ) × List Spell) → ℕ → ℕ → List Spell
outages_of_pair groups table i j =
    unwrap_or (option_and_then (λ from. option_and_then (λ to. lookup (is_at (pair_cmp (from, to))) table) (slice_get groups j)) (slice_get groups i)) []

-- the number of a pair of groups in the calendar of cuts
abbrev pub pair_number : ℕ → ℕ → ℕ
pair_number from to = from % 8 * 8 + to % 8

-- the number of two members' groups, where they have one
abbrev pub pair_of : List ℕ → ℕ → ℕ → Option ℕ
pair_of groups i j = option_and_then (λ from. option_and_then (λ to. Some (pair_number from to)) (slice_get groups j)) (slice_get groups i)
