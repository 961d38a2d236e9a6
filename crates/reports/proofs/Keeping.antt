-- What one row more makes of the departures and of the false claims that are kept.
use Rattle.std.proofs.Common.{◌≡◌, ℕ, ◌+◌, ◌-◌, ◌<◌, ◌^◌, ◌==◌, Bool, true, false, cond, ◌&&◌, ◌||◌, not, List, [], ◌∷◌, ◌++◌, length, get_or, set, take, drop, map, Option, Some, None, refl, sym, ap, subst, ◌∙◌, arith, add-zero, append-nil}
use Rattle.std.specs.Prelude.{All, if◌then◌else◌}
use Rattle.std.specs.Option.{option_map_or}
use Rattle.std.specs.List.{list_any}
use Rattle.std.proofs.lemmas.List.{length-map, length-take-le, get_or-append_right, get_or-drop}
use Rattle.std.proofs.lemmas.List.Edits.{map_over_more}
use Rattle.std.proofs.lemmas.List.Elements.{All-get_or}
use Rattle.trace.specs.declared.row.What.{What}
use Rattle.trace.specs.declared.row.What.TheVariants as what
use Rattle.trace.specs.declared.row.Row.{Row}
pub use Rattle.trace_rows.proofs.Outcomes.{on_ok, on_err, on_ok_three, on_err_three}
use Rattle.reports.specs.declared.departure.DepartureReport.{DepartureReport}
use Rattle.reports.specs.declared.false_positives.FalsePositive.{FalsePositive}
use Rattle.trace_rows.specs.Rows.{has_kind, is_about, tells_of}
use Rattle.reports.specs.Departures.{departures_of, crashes_of, leaves_of}
use Rattle.reports.specs.FalsePositives.{ways_to_depart, departed_by, departed_in, is_about_one}
use Rattle.reports.specs.Failures.{departure_with, departure_at, is_about_departed, false_positive_told, false_positives_of}
use Rattle.reports.proofs.Detections.{tells_of-other, same_detection}
use Rattle.reports.proofs.Pushes.{departures_of-push, false_positives_of-push, departed_member, departed_members}

-- ---- departures of which a row reports nothing

pub untold : (row : Row) (departure : DepartureReport) → tells_of what.Suspect departure.member row ≡ false → tells_of what.Confirm departure.member row ≡ false → departure_with row departure ≡ departure
untold row departure s c = ap (λ d. record departure { detection = d }) (sym (same_detection departure.member row departure.detection s c))

-- a row that is no claim reports nothing of any departure
unclaimed : (row : Row) (departures : List DepartureReport) → has_kind what.Suspect row ≡ false → has_kind what.Confirm row ≡ false → map (departure_with row) departures ≡ departures
unclaimed row [] s c = refl
unclaimed row (departure ∷ departures) s c =
    ap (λ x. x ∷ map (departure_with row) departures) (untold row departure (ap (λ b. b && is_about departure.member row) s) (ap (λ b. b && is_about departure.member row) c))
    ∙ ap (λ l. departure ∷ l) (unclaimed row departures s c)

pub or-left : (a b : Bool) → (a || b) ≡ false → a ≡ false
or-left false b none = refl
or-left true b none = none

pub or-right : (a b : Bool) → (a || b) ≡ false → b ≡ false
or-right false b none = none
or-right true b none = cc

-- no departure is of a member that the row is about
about_none : (row : Row) (about : Option ℕ) (departure : DepartureReport) (departures : List DepartureReport)
    → option_map_or (λ a. list_any (λ c. c.member == a) (departure ∷ departures)) about false ≡ false
    → (option_map_or (λ a. a == departure.member) about false ≡ false) × (option_map_or (λ a. list_any (λ c. c.member == a) departures) about false ≡ false)
about_none row None departure departures none = (refl, refl)
about_none row (Some a) departure departures none = (other departure.member a (or-left (departure.member == a) _ none), or-right (departure.member == a) _ none)
  where
    other : (m a : ℕ) → (m == a) ≡ false → (a == m) ≡ false
    other m a h = grind (arith)

-- a row that is about none of those who departed reports nothing of their departures
pub unrelated : (row : Row) (departures : List DepartureReport) → is_about_departed departures row ≡ false → map (departure_with row) departures ≡ departures
unrelated row [] none = refl
unrelated row (departure ∷ departures) none =
    let both = about_none row row.about departure departures none in
    ap (λ x. x ∷ map (departure_with row) departures) (untold row departure (tells_of-other what.Suspect departure.member row both.0) (tells_of-other what.Confirm departure.member row both.0))
    ∙ ap (λ l. departure ∷ l) (unrelated row departures both.1)

-- ---- a loop over all departures

pub seen_more : (row : Row) (these now : List DepartureReport) (i : ℕ) (x y : DepartureReport) → i < length these → now ≡ map (departure_with row) (take i these) ++ drop i these
    → x ≡ get_or now i x → y ≡ departure_with row (get_or now i x) → set now i y ≡ map (departure_with row) (take (i + 1) these) ++ drop (i + 1) these
seen_more row these now i x y lt so_far is seen =
    ap (set now i) (seen ∙ ap (departure_with row) (sym is)) ∙ map_over_more (departure_with row) these now i x lt so_far is

-- the next departure has few confirmers, where all have that few before
pub few_here : (row : Row) (these now : List DepartureReport) (i : ℕ) (x : DepartureReport) → i < length these → now ≡ map (departure_with row) (take i these) ++ drop i these
    → All (λ c. c.detection.confirmers < 2 ^ 63) these → (get_or now i x).detection.confirmers < 2 ^ 63
few_here row these now i x lt so_far few =
    let long : length (map (departure_with row) (take i these)) ≡ i = length-map (take i these) (departure_with row) ∙ length-take-le i these (omega (arith, lt)) in
    let none : i - i ≡ 0 = omega arith in
    let here : get_or now i x ≡ get_or these i x =
    ap (λ l. get_or l i x) so_far ∙ get_or-append_right (map (departure_with row) (take i these)) (drop i these) i i x long (omega arith)
    ∙ ap (λ k. get_or (drop i these) k x) none ∙ get_or-drop i these 0 x ∙ ap (λ k. get_or these k x) (add-zero i) in
    subst (λ (c : DepartureReport). c.detection.confirmers < 2 ^ 63) (sym here) (All-get_or (λ c. c.detection.confirmers < 2 ^ 63) these i x lt few)

-- ---- kinds of rows

-- a claim that isn't the row's has no new false positive
pub other_claim : (claim : What) (rows : List Row) (row : Row) → has_kind claim row ≡ false → false_positives_of claim (rows ++ row ∷ []) ≡ false_positives_of claim rows
other_claim claim rows row other =
    false_positives_of-push claim rows row ∙ ap (λ b. false_positives_of claim rows ++ cond (b && not (is_about_one (departed_in ways_to_depart rows) row)) (false_positive_told row ∷ []) []) other ∙ append-nil (false_positives_of claim rows)

-- whether a row is about one of those who departed
list_any-members : (departures : List DepartureReport) (about : ℕ) → list_any (λ m. m == about) (map departed_member departures) ≡ list_any (λ d. d.member == about) departures
list_any-members [] about = refl
list_any-members (departure ∷ departures) about = ap (λ b. departure.member == about || b) (list_any-members departures about)

about_these : (departures : List DepartureReport) (row : Row) → is_about_one (map departed_member departures) row ≡ is_about_departed departures row
about_these departures row = about_one departures row.about
  where
    about_one : (departures : List DepartureReport) (about : Option ℕ)
        → option_map_or (λ a. list_any (λ m. m == a) (map departed_member departures)) about false ≡ option_map_or (λ a. list_any (λ d. d.member == a) departures) about false
    about_one departures None = refl
    about_one departures (Some a) = list_any-members departures a

any_of_two : (test : ℕ → Bool) (first second : List ℕ) → list_any test (first ++ (second ++ [])) ≡ (list_any test first || list_any test second)
any_of_two test [] second = ap (list_any test) (append-nil second)
any_of_two test (x ∷ first) second = ap (λ b. test x || b) (any_of_two test first second) ∙ regrouped (test x) (list_any test first) (list_any test second)
  where
    regrouped : (a b c : Bool) → (a || (b || c)) ≡ ((a || b) || c)
    regrouped true b c = refl
    regrouped false b c = refl

about_two : (first second : List ℕ) (about : Option ℕ)
    → option_map_or (λ a. list_any (λ m. m == a) (first ++ (second ++ []))) about false
    ≡ (option_map_or (λ a. list_any (λ m. m == a) first) about false || option_map_or (λ a. list_any (λ m. m == a) second) about false)
about_two first second None = refl
about_two first second (Some a) = any_of_two (λ m. m == a) first second

about_departed : (rows : List Row) (row : Row) → is_about_one (departed_in ways_to_depart rows) row ≡ (is_about_departed (crashes_of rows) row || is_about_departed (leaves_of rows) row)
about_departed rows row =
    about_two (departed_by rows what.Crash) (departed_by rows what.Leave) row.about
    ∙ ap (λ b. b || is_about_one (departed_by rows what.Leave) row) (these what.Crash)
    ∙ ap (λ b. is_about_departed (crashes_of rows) row || b) (these what.Leave)
  where
    these : (way : What) → is_about_one (departed_by rows way) row ≡ is_about_departed (departures_of way rows) row
    these way = ap (λ members. is_about_one members row) (sym (departed_members way rows)) ∙ about_these (departures_of way rows) row

not_then : (b : Bool) (kept : FalsePositive) → cond (not b) (kept ∷ []) [] ≡ (if b then [] else kept ∷ [])
not_then true kept = refl
not_then false kept = refl

-- a claim has a new false positive, if it is about none of those who departed
pub own_claim : (claim : What) (rows : List Row) (row : Row) (crashes leaves : List DepartureReport) (old new : List FalsePositive) → has_kind claim row ≡ true → crashes ≡ crashes_of rows → leaves ≡ leaves_of rows
    → new ≡ old ++ (if is_about_departed crashes row || is_about_departed leaves row then [] else false_positive_told row ∷ []) → old ≡ false_positives_of claim rows → new ≡ false_positives_of claim (rows ++ row ∷ [])
own_claim claim rows row crashes leaves old new told crashed left is so_far =
    is ∙ ap (λ l. l ++ (if is_about_departed crashes row || is_about_departed leaves row then [] else false_positive_told row ∷ [])) so_far
    ∙ ap (λ ds. false_positives_of claim rows ++ (if is_about_departed ds row || is_about_departed leaves row then [] else false_positive_told row ∷ [])) crashed
    ∙ ap (λ ds. false_positives_of claim rows ++ (if is_about_departed (crashes_of rows) row || is_about_departed ds row then [] else false_positive_told row ∷ [])) left
    ∙ sym (false_positives_of-push claim rows row ∙ ap (λ b. false_positives_of claim rows ++ cond (b && not (is_about_one (departed_in ways_to_depart rows) row)) (false_positive_told row ∷ []) []) told
    ∙ ap (λ b. false_positives_of claim rows ++ cond (not b) (false_positive_told row ∷ []) []) (about_departed rows row)
    ∙ ap (λ l. false_positives_of claim rows ++ l) (not_then (is_about_departed (crashes_of rows) row || is_about_departed (leaves_of rows) row) (false_positive_told row)))

-- a row that isn't of a departure makes none
pub no_departure : (way : What) (rows : List Row) (row : Row) → has_kind way row ≡ false → departures_of way (rows ++ row ∷ []) ≡ map (departure_with row) (departures_of way rows)
no_departure way rows row other =
    departures_of-push way rows row ∙ ap (λ b. map (departure_with row) (departures_of way rows) ++ cond b (departure_at row ∷ []) []) other ∙ append-nil (map (departure_with row) (departures_of way rows))

-- a row that is no claim leaves the departures
pub same_departures : (way : What) (rows : List Row) (row : Row) → has_kind way row ≡ false → has_kind what.Suspect row ≡ false → has_kind what.Confirm row ≡ false
    → departures_of way (rows ++ row ∷ []) ≡ departures_of way rows
same_departures way rows row other suspect confirm = no_departure way rows row other ∙ unclaimed row (departures_of way rows) suspect confirm

-- a row of a departure adds it
pub one_departure : (way : What) (rows : List Row) (row : Row) → has_kind way row ≡ true → has_kind what.Suspect row ≡ false → has_kind what.Confirm row ≡ false
    → departures_of way (rows ++ row ∷ []) ≡ departures_of way rows ++ departure_at row ∷ []
one_departure way rows row departs suspect confirm =
    departures_of-push way rows row ∙ ap (λ b. map (departure_with row) (departures_of way rows) ++ cond b (departure_at row ∷ []) []) departs
    ∙ ap (λ l. l ++ departure_at row ∷ []) (unclaimed row (departures_of way rows) suspect confirm)
