-- Rows in their places.
use Rattle.std.proofs.Common.{ℕ, zero, suc, ◌≤◌, ◌<◌, List, [], ◌∷◌, ◌++◌, length, take, arith}
use Rattle.std.specs.Prelude.{All, filter}
use Rattle.std.proofs.lemmas.List.{length-append}
use Rattle.std.proofs.lemmas.List.Elements.{All-map, All-filter, All-weaker}
use Rattle.scenario.specs.Setup.{Setup, member_count}
use Rattle.trace.specs.declared.row.What.{What}
use Rattle.trace.specs.declared.row.Row.{Row}
use Rattle.trace.specs.Text.{NamesMembers}
use Rattle.trace_rows.specs.Rows.{rows_in_place}
pub use Rattle.trace_rows.proofs.Places.{All-placed_after}
use Rattle.reports.specs.Departures.{departure_told, is_departure, departures_of}

-- those who depart are members where the rows name members alone
pub departed_are_members : (s : Setup) (way : What) (rows : List Row) → All (NamesMembers s) rows → All (λ departure. departure.member < member_count s) (departures_of way rows)
departed_are_members s way rows named =
    All-map (λ departure. departure.member < member_count s) departure_told (filter (is_departure way) (rows_in_place rows))
    (All-filter (is_departure way) (λ p. p.row.member < member_count s) (rows_in_place rows)
    (All-placed_after (λ row. row.member < member_count s) [] rows (All-weaker (NamesMembers s) (λ row. row.member < member_count s) (λ row names. names.member) rows named)))

-- where as many are there before one of the items, there are more in all
pub fewer : {A : Type 0} (xs ys : List A) (k n : ℕ) → k < length ys → n ≤ length (xs ++ take k ys) → n < length (xs ++ ys)
fewer xs ys k n here many =
    let some = length-append xs (take k ys) in
    let all = length-append xs ys in
    let low = shorter k ys here in
    omega (arith, some, all, low, many)
  where
    shorter : {A : Type 0} (k : ℕ) (ys : List A) → k < length ys → length (take k ys) < length ys
    shorter k [] here = absurd (omega (arith, here))
    shorter zero (y ∷ ys) here = omega arith
    shorter (suc k) (y ∷ ys) here = let low = shorter k ys (omega (arith, here)) in omega (arith, low)
