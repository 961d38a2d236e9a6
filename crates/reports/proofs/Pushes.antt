-- Rows in their places, with one row more.
use Rattle.std.proofs.Common.{◌≡◌, ℕ, ◌<◌, ◌≤◌, ◌^◌, Bool, true, false, cond, List, [], ◌∷◌, ◌++◌, length, map, refl, ap, ◌∙◌, arith}
use Rattle.std.specs.Prelude.{filter, All}
use Rattle.std.proofs.lemmas.List.{map-append}
use Rattle.std.proofs.lemmas.List.Elements.{All-map, All-filter, All-weaker}
use Rattle.std.proofs.lemmas.List.Sums.{count_by-le-length}
use Rattle.trace.specs.declared.row.What.{What}
use Rattle.trace.specs.declared.row.What.TheVariants as what
use Rattle.trace.specs.declared.row.Row.{Row}
pub use Rattle.trace_rows.proofs.Places.{with_later, last_placed, kept-push}
use Rattle.trace_rows.proofs.Places.{made-one, few_later}
use Rattle.reports.specs.declared.departure.Detection.{Detection}
use Rattle.reports.specs.declared.departure.DepartureReport.{DepartureReport}
use Rattle.reports.specs.declared.false_positives.FalsePositive.{FalsePositive}
use Rattle.trace_rows.specs.Rows.{Placed, rows_in_place, placed_after, has_kind, tells_of}
use Rattle.reports.specs.Departures.{departure_told, is_departure, departures_of}
use Rattle.reports.specs.FalsePositives.{ways_to_depart, departed_by, departed_in, is_false_claim, is_false_positive}
use Rattle.reports.specs.Failures.{departure_with, departure_at, false_positive_told, false_positives_of}
use Rattle.reports.proofs.Detections.{detection-push}

-- ---- departures

abbrev departure : ℕ → ℕ → Detection → DepartureReport
departure member at told = record { member = member; at = at; detection = told }

departures-later : (row : Row) (ps : List Placed) → map departure_told (map (with_later row) ps) ≡ map (departure_with row) (map departure_told ps)
departures-later row [] = refl
departures-later row (p ∷ ps) =
    ap (λ d. departure p.row.member p.row.at d ∷ map departure_told (map (with_later row) ps)) (detection-push p.row.member p.later row)
    ∙ ap (λ ds. departure_with row (departure_told p) ∷ ds) (departures-later row ps)

pub departures_of-push : (way : What) (rows : List Row) (row : Row)
    → departures_of way (rows ++ row ∷ []) ≡ map (departure_with row) (departures_of way rows) ++ cond (has_kind way row) (departure_at row ∷ []) []
departures_of-push way rows row =
    ap (map departure_told) (kept-push (is_departure way) rows row (λ p. refl))
    ∙ map-append departure_told (map (with_later row) (filter (is_departure way) (rows_in_place rows))) (cond (has_kind way row) (last_placed rows row ∷ []) [])
    ∙ ap (λ l. l ++ map departure_told (cond (has_kind way row) (last_placed rows row ∷ []) [])) (departures-later row (filter (is_departure way) (rows_in_place rows)))
    ∙ ap (λ l. map (departure_with row) (departures_of way rows) ++ l) (made-one departure_told (has_kind way row) (last_placed rows row))

-- ---- false claims

abbrev pub placed_false_positive : Placed → FalsePositive
placed_false_positive p = false_positive_told p.row

false_positives-later : (row : Row) (ps : List Placed) → map placed_false_positive (map (with_later row) ps) ≡ map placed_false_positive ps
false_positives-later row [] = refl
false_positives-later row (p ∷ ps) = ap (λ l. false_positive_told p.row ∷ l) (false_positives-later row ps)

pub false_positives_of-push : (claim : What) (rows : List Row) (row : Row)
    → false_positives_of claim (rows ++ row ∷ []) ≡ false_positives_of claim rows ++ cond (is_false_claim claim (departed_in ways_to_depart rows) row) (false_positive_told row ∷ []) []
false_positives_of-push claim rows row =
    ap (map placed_false_positive) (kept-push (is_false_positive ways_to_depart claim) rows row (λ p. refl))
    ∙ map-append placed_false_positive (map (with_later row) (filter (is_false_positive ways_to_depart claim) (rows_in_place rows))) (cond (is_false_claim claim (departed_in ways_to_depart rows) row) (last_placed rows row ∷ []) [])
    ∙ ap (λ l. l ++ map placed_false_positive (cond (is_false_claim claim (departed_in ways_to_depart rows) row) (last_placed rows row ∷ []) [])) (false_positives-later row (filter (is_false_positive ways_to_depart claim) (rows_in_place rows)))
    ∙ ap (λ l. false_positives_of claim rows ++ l) (made-one placed_false_positive (is_false_claim claim (departed_in ways_to_depart rows) row) (last_placed rows row))

-- ---- who departed

abbrev pub departed_member : DepartureReport → ℕ
departed_member d = d.member

abbrev pub row_member : Row → ℕ
row_member row = row.member

departed-one : (keep : Bool) (p : Placed) (ps : List Placed) (rows : List Row) → map departed_member (map departure_told ps) ≡ map row_member rows
    → map departed_member (map departure_told (cond keep (p ∷ ps) ps)) ≡ map row_member (cond keep (p.row ∷ rows) rows)
departed-one true p ps rows is = ap (λ l. p.row.member ∷ l) is
departed-one false p ps rows is = is

departed_after : (way : What) (earlier rows : List Row) → map departed_member (map departure_told (filter (is_departure way) (placed_after earlier rows))) ≡ departed_by rows way
departed_after way earlier [] = refl
departed_after way earlier (row ∷ rows) =
    departed-one (has_kind way row) (record { earlier = earlier; row = row; later = rows }) (filter (is_departure way) (placed_after (earlier ++ row ∷ []) rows)) (filter (has_kind way) rows)
    (departed_after way (earlier ++ row ∷ []) rows)

-- those whose departures there are are those who depart
pub departed_members : (way : What) (rows : List Row) → map departed_member (departures_of way rows) ≡ departed_by rows way
departed_members way rows = departed_after way [] rows

-- ---- how often a departure was confirmed

-- a departure has no more confirmers than there are rows
pub few_confirmers : (way : What) (rows : List Row) → length rows < 2 ^ 63 → All (λ d. d.detection.confirmers < 2 ^ 63) (departures_of way rows)
few_confirmers way rows few =
    All-map (λ d. d.detection.confirmers < 2 ^ 63) departure_told (filter (is_departure way) (rows_in_place rows))
    (All-filter (is_departure way) (λ p. (departure_told p).detection.confirmers < 2 ^ 63) (rows_in_place rows)
    (All-weaker (λ p. length p.later ≤ length rows) (λ p. (departure_told p).detection.confirmers < 2 ^ 63)
    (λ p later. omega (arith, later, few, count_by-le-length (tells_of what.Confirm p.row.member) p.later)) (rows_in_place rows) (few_later (length rows) [] rows (omega arith))))
