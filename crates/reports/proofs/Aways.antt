-- Members that depart and start again, with one row more.
use Rattle.std.proofs.Common.{◌≡◌, ℕ, ◌≤◌, ◌<◌, ◌^◌, ◌==◌, Bool, true, false, cond, ◌&&◌, ◌||◌, ◌⊎◌, not, List, [], ◌∷◌, ◌++◌, length, map, Option, Some, None, refl, sym, ap, ◌∙◌, inl, inr, arith, append-nil}
use Rattle.std.specs.Prelude.{filter, All, if◌then◌else◌}
use Rattle.std.specs.Option.{option_map_or}
use Rattle.std.specs.List.{list_any}
use Rattle.std.proofs.Math.Bool.{and-false}
use Rattle.std.proofs.lemmas.Bool.{cases_Bool, false≢true}
use Rattle.std.proofs.lemmas.List.{map-append}
use Rattle.std.proofs.lemmas.List.Elements.{All-map, All-filter, All-weaker}
use Rattle.std.proofs.lemmas.List.Folds.{list_any-append}
use Rattle.std.proofs.lemmas.List.Sums.{count_by-le-length}
use Rattle.trace.specs.declared.row.What.{What}
use Rattle.trace.specs.declared.row.What.TheVariants as what
use Rattle.trace.specs.declared.row.Row.{Row}
use Rattle.trace_rows.specs.Rows.{Placed, rows_in_place, has_kind, is_about, tells_of}
use Rattle.trace_rows.proofs.Places.{with_later, last_placed, kept-push, made-one, few_later}
use Rattle.incidents.specs.Lives.{restarts}
use Rattle.reports.specs.declared.departure.Detection.{Detection}
use Rattle.reports.specs.declared.departure.DepartureReport.{DepartureReport}
use Rattle.reports.specs.declared.absence.Absence.{Absence}
use Rattle.reports.specs.declared.false_positives.FalsePositive.{FalsePositive}
use Rattle.reports.specs.Departures.{is_departure, detection_of}
use Rattle.reports.specs.Failures.{departure_with, false_positive_told}
use Rattle.reports.specs.Absences.{absence_of, is_over, absence_told, stays_away, is_away_by, is_away, is_wrong, wrongs_of}
use Rattle.reports.specs.Away.{absence_kept, absences_kept, absence_with, absence_at, keeps_away, is_about_away}
use Rattle.reports.proofs.Detections.{detection-push}
use Rattle.reports.proofs.Pushes.{placed_false_positive}
use Rattle.reports.proofs.Keeping.{untold}

-- ---- the rows of an absence

or-first : (a b : Bool) → (a || b) ≡ false → a ≡ false
or-first false b none = refl
or-first true b none = none

or-rest : (a b : Bool) → (a || b) ≡ false → b ≡ false
or-rest false b none = none
or-rest true b none = absurd (false≢true (sym none))

whole : (m : ℕ) (rows : List Row) → list_any (restarts m) rows ≡ false → absence_of m rows ≡ rows
whole m [] none = refl
whole m (row ∷ rows) none =
    ap (λ b. if b then [] else row ∷ absence_of m rows) (or-first (restarts m row) _ none) ∙ ap (λ l. row ∷ l) (whole m rows (or-rest (restarts m row) _ none))

more : (m : ℕ) (rows : List Row) (row : Row) → list_any (restarts m) rows ≡ false → absence_of m (rows ++ row ∷ []) ≡ rows ++ cond (restarts m row) [] (row ∷ [])
more m [] row none = refl
more m (first ∷ rows) row none =
    ap (λ b. if b then [] else first ∷ absence_of m (rows ++ row ∷ [])) (or-first (restarts m first) _ none) ∙ ap (λ l. first ∷ l) (more m rows row (or-rest (restarts m first) _ none))

over_step : (b rest : Bool) (first : Row) (one two : List Row) → (b || rest) ≡ true → (rest ≡ true → one ≡ two) → (if b then [] else first ∷ one) ≡ (if b then [] else first ∷ two)
over_step true rest first one two some same = refl
over_step false rest first one two some same = ap (λ l. first ∷ l) (same some)

over : (m : ℕ) (rows : List Row) (row : Row) → list_any (restarts m) rows ≡ true → absence_of m (rows ++ row ∷ []) ≡ absence_of m rows
over m [] row some = absurd (false≢true some)
over m (first ∷ rows) row some =
    over_step (restarts m first) (list_any (restarts m) rows) first (absence_of m (rows ++ row ∷ [])) (absence_of m rows) some (over m rows row)

few_of : (m : ℕ) (rows : List Row) → length (absence_of m rows) ≤ length rows
few_of m [] = omega arith
few_of m (row ∷ rows) = one (restarts m row) (few_of m rows)
  where
    one : (b : Bool) → length (absence_of m rows) ≤ length rows → length (if b then [] else row ∷ absence_of m rows) ≤ length (row ∷ rows)
    one true few = omega arith
    one false few = omega (arith, few)

-- ---- one row more of an absence

abbrev departure : ℕ → ℕ → Detection → DepartureReport
departure member at detection = record { member = member; at = at; detection = detection }

abbrev absence : DepartureReport → Bool → Absence
absence told is_over = record { told = told; is_over = is_over }

-- what is told by these rows
abbrev told_by : Placed → List Row → DepartureReport
told_by p rows = departure p.row.member p.row.at (detection_of p.row.member rows)

over-push : (row : Row) (p : Placed) → is_over (with_later row p) ≡ (is_over p || (restarts p.row.member row || false))
over-push row p = list_any-append (restarts p.row.member) p.later (row ∷ [])

or_false : (b : Bool) → (b || false) ≡ b
or_false true = refl
or_false false = refl

pub kept-later : (row : Row) (p : Placed) → absence_kept (with_later row p) ≡ absence_with row (absence_kept p)
kept-later row p = elim (cases_Bool (is_over p)) [
  | inl ended ↦
      ap (λ l. absence (told_by p l) (is_over (with_later row p))) (over p.row.member p.later row ended)
      ∙ ap (absence (absence_told p)) (over-push row p ∙ ap (λ b. b || (restarts p.row.member row || false)) ended ∙ sym ended)
      ∙ ap (λ b. if b then absence_kept p else (if restarts p.row.member row then record (absence_kept p) { is_over = true } else record (absence_kept p) { told = departure_with row (absence_told p) })) (sym ended)
  | inr lasts ↦ on lasts (cases_Bool (restarts p.row.member row))
]
  where
    on : is_over p ≡ false → (restarts p.row.member row ≡ true) ⊎ (restarts p.row.member row ≡ false) → absence_kept (with_later row p) ≡ absence_with row (absence_kept p)
    on lasts (inl starts) =
        ap (λ l. absence (told_by p l) (is_over (with_later row p))) (more p.row.member p.later row lasts ∙ ap (λ b. p.later ++ cond b [] (row ∷ [])) starts ∙ append-nil p.later ∙ sym (whole p.row.member p.later lasts))
        ∙ ap (absence (absence_told p)) (over-push row p ∙ ap (λ b. b || (restarts p.row.member row || false)) lasts ∙ ap (λ b. b || false) starts)
        ∙ ap (λ b. if b then record (absence_kept p) { is_over = true } else record (absence_kept p) { told = departure_with row (absence_told p) }) (sym starts)
        ∙ ap (λ b. if b then absence_kept p else (if restarts p.row.member row then record (absence_kept p) { is_over = true } else record (absence_kept p) { told = departure_with row (absence_told p) })) (sym lasts)
    on lasts (inr stays) =
        ap (λ l. absence (told_by p l) (is_over (with_later row p))) (more p.row.member p.later row lasts ∙ ap (λ b. p.later ++ cond b [] (row ∷ [])) stays)
        ∙ ap (λ d. absence (departure p.row.member p.row.at d) (is_over (with_later row p))) (detection-push p.row.member p.later row)
        ∙ ap (λ l. absence (departure_with row (told_by p l)) (is_over (with_later row p))) (sym (whole p.row.member p.later lasts))
        ∙ ap (absence (departure_with row (absence_told p))) (over-push row p ∙ ap (λ b. b || (restarts p.row.member row || false)) lasts ∙ ap (λ b. b || false) stays ∙ sym lasts)
        ∙ ap (λ b. if b then record (absence_kept p) { is_over = true } else record (absence_kept p) { told = departure_with row (absence_told p) }) (sym stays)
        ∙ ap (λ b. if b then absence_kept p else (if restarts p.row.member row then record (absence_kept p) { is_over = true } else record (absence_kept p) { told = departure_with row (absence_told p) })) (sym lasts)

kept-all : (row : Row) (ps : List Placed) → map absence_kept (map (with_later row) ps) ≡ map (absence_with row) (map absence_kept ps)
kept-all row [] = refl
kept-all row (p ∷ ps) = ap (λ a. a ∷ map absence_kept (map (with_later row) ps)) (kept-later row p) ∙ ap (λ l. absence_with row (absence_kept p) ∷ l) (kept-all row ps)

pub absences-push : (way : What) (rows : List Row) (row : Row)
    → absences_kept way (rows ++ row ∷ []) ≡ map (absence_with row) (absences_kept way rows) ++ cond (has_kind way row) (absence_at row ∷ []) []
absences-push way rows row =
    ap (map absence_kept) (kept-push (is_departure way) rows row (λ p. refl))
    ∙ map-append absence_kept (map (with_later row) (filter (is_departure way) (rows_in_place rows))) (cond (has_kind way row) (last_placed rows row ∷ []) [])
    ∙ ap (λ l. l ++ map absence_kept (cond (has_kind way row) (last_placed rows row ∷ []) [])) (kept-all row (filter (is_departure way) (rows_in_place rows)))
    ∙ ap (λ l. map (absence_with row) (absences_kept way rows) ++ l) (made-one absence_kept (has_kind way row) (last_placed rows row))

-- a row that departs in no such way
pub no_absence : (way : What) (rows : List Row) (row : Row) → has_kind way row ≡ false → absences_kept way (rows ++ row ∷ []) ≡ map (absence_with row) (absences_kept way rows)
no_absence way rows row other =
    absences-push way rows row ∙ ap (λ b. map (absence_with row) (absences_kept way rows) ++ cond b (absence_at row ∷ []) []) other ∙ append-nil (map (absence_with row) (absences_kept way rows))

-- ---- rows that tell nothing of an absence

quiet_one : (row : Row) (a : Absence) → has_kind what.Suspect row ≡ false → has_kind what.Confirm row ≡ false → has_kind what.Restart row ≡ false → absence_with row a ≡ a
quiet_one row a suspect confirm restart =
    ap (λ b. if a.is_over then a else (if b then record a { is_over = true } else record a { told = departure_with row a.told })) (ap (λ b. (row.member == a.told.member) && b) restart ∙ and-false (row.member == a.told.member))
    ∙ ap (λ t. if a.is_over then a else absence t a.is_over) (untold row a.told (ap (λ b. b && is_about a.told.member row) suspect) (ap (λ b. b && is_about a.told.member row) confirm))
    ∙ both a.is_over
  where
    both : (b : Bool) → (if b then a else a) ≡ a
    both true = refl
    both false = refl

quiet : (row : Row) (absences : List Absence) → has_kind what.Suspect row ≡ false → has_kind what.Confirm row ≡ false → has_kind what.Restart row ≡ false → map (absence_with row) absences ≡ absences
quiet row [] suspect confirm restart = refl
quiet row (a ∷ absences) suspect confirm restart =
    ap (λ x. x ∷ map (absence_with row) absences) (quiet_one row a suspect confirm restart) ∙ ap (λ l. a ∷ l) (quiet row absences suspect confirm restart)

-- a row that neither departs nor tells anything
pub same_absences : (way : What) (rows : List Row) (row : Row) → has_kind way row ≡ false → has_kind what.Suspect row ≡ false → has_kind what.Confirm row ≡ false → has_kind what.Restart row ≡ false
    → absences_kept way (rows ++ row ∷ []) ≡ absences_kept way rows
same_absences way rows row other suspect confirm restart = no_absence way rows row other ∙ quiet row (absences_kept way rows) suspect confirm restart

-- a departure
pub one_absence : (way : What) (rows : List Row) (row : Row) → has_kind way row ≡ true → has_kind what.Suspect row ≡ false → has_kind what.Confirm row ≡ false → has_kind what.Restart row ≡ false
    → absences_kept way (rows ++ row ∷ []) ≡ absences_kept way rows ++ absence_at row ∷ []
one_absence way rows row departs suspect confirm restart =
    absences-push way rows row ∙ ap (λ b. map (absence_with row) (absences_kept way rows) ++ cond b (absence_at row ∷ []) []) departs
    ∙ ap (λ l. l ++ absence_at row ∷ []) (quiet row (absences_kept way rows) suspect confirm restart)

-- ---- false claims

wrongs-later : (row : Row) (ps : List Placed) → map placed_false_positive (map (with_later row) ps) ≡ map placed_false_positive ps
wrongs-later row [] = refl
wrongs-later row (p ∷ ps) = ap (λ l. false_positive_told p.row ∷ l) (wrongs-later row ps)

wrongs-push : (claim : What) (rows : List Row) (row : Row)
    → wrongs_of claim (rows ++ row ∷ []) ≡ wrongs_of claim rows ++ cond (is_wrong claim (last_placed rows row)) (false_positive_told row ∷ []) []
wrongs-push claim rows row =
    ap (map placed_false_positive) (kept-push (is_wrong claim) rows row (λ p. refl))
    ∙ map-append placed_false_positive (map (with_later row) (filter (is_wrong claim) (rows_in_place rows))) (cond (is_wrong claim (last_placed rows row)) (last_placed rows row ∷ []) [])
    ∙ ap (λ l. l ++ map placed_false_positive (cond (is_wrong claim (last_placed rows row)) (last_placed rows row ∷ []) [])) (wrongs-later row (filter (is_wrong claim) (rows_in_place rows)))
    ∙ ap (λ l. wrongs_of claim rows ++ l) (made-one placed_false_positive (is_wrong claim (last_placed rows row)) (last_placed rows row))

-- a claim that isn't the row's has no new one
pub other_wrong : (claim : What) (rows : List Row) (row : Row) → has_kind claim row ≡ false → wrongs_of claim (rows ++ row ∷ []) ≡ wrongs_of claim rows
other_wrong claim rows row other =
    wrongs-push claim rows row
    ∙ ap (λ b. wrongs_of claim rows ++ cond (b && not (option_map_or (is_away rows) row.about false)) (false_positive_told row ∷ []) []) other ∙ append-nil (wrongs_of claim rows)

-- who is away, by what is kept
away_mapped : (m : ℕ) (ps : List Placed) → list_any (stays_away m) ps ≡ list_any (keeps_away m) (map absence_kept ps)
away_mapped m [] = refl
away_mapped m (p ∷ ps) = ap (λ b. stays_away m p || b) (away_mapped m ps)

about_away : (rows : List Row) (about : Option ℕ)
    → option_map_or (is_away rows) about false
    ≡ (option_map_or (λ a. list_any (keeps_away a) (absences_kept what.Crash rows)) about false || option_map_or (λ a. list_any (keeps_away a) (absences_kept what.Leave rows)) about false)
about_away rows None = refl
about_away rows (Some a) =
    ap (λ b. b || is_away_by what.Leave rows a) (away_mapped a (filter (is_departure what.Crash) (rows_in_place rows)))
    ∙ ap (λ b. list_any (keeps_away a) (absences_kept what.Crash rows) || b) (away_mapped a (filter (is_departure what.Leave) (rows_in_place rows)))

not_then : (b : Bool) (kept : FalsePositive) → cond (not b) (kept ∷ []) [] ≡ (if b then [] else kept ∷ [])
not_then true kept = refl
not_then false kept = refl

-- a claim has a new one, if it is about nobody who is away
pub own_wrong : (claim : What) (rows : List Row) (row : Row) (crashes leaves : List Absence) (old new : List FalsePositive) → has_kind claim row ≡ true
    → crashes ≡ absences_kept what.Crash rows → leaves ≡ absences_kept what.Leave rows
    → new ≡ old ++ (if is_about_away crashes row || is_about_away leaves row then [] else false_positive_told row ∷ []) → old ≡ wrongs_of claim rows → new ≡ wrongs_of claim (rows ++ row ∷ [])
own_wrong claim rows row crashes leaves old new told crashed left is so_far =
    is ∙ ap (λ l. l ++ (if is_about_away crashes row || is_about_away leaves row then [] else false_positive_told row ∷ [])) so_far
    ∙ ap (λ ds. wrongs_of claim rows ++ (if is_about_away ds row || is_about_away leaves row then [] else false_positive_told row ∷ [])) crashed
    ∙ ap (λ ds. wrongs_of claim rows ++ (if is_about_away (absences_kept what.Crash rows) row || is_about_away ds row then [] else false_positive_told row ∷ [])) left
    ∙ sym (wrongs-push claim rows row
    ∙ ap (λ b. wrongs_of claim rows ++ cond (b && not (option_map_or (is_away rows) row.about false)) (false_positive_told row ∷ []) []) told
    ∙ ap (λ b. wrongs_of claim rows ++ cond (not b) (false_positive_told row ∷ []) []) (about_away rows row.about)
    ∙ ap (λ l. wrongs_of claim rows ++ l) (not_then (is_about_away (absences_kept what.Crash rows) row || is_about_away (absences_kept what.Leave rows) row) (false_positive_told row)))

-- ---- how often an absence was confirmed

pub few_absences : (way : What) (rows : List Row) → length rows < 2 ^ 63 → All (λ a. a.told.detection.confirmers < 2 ^ 63) (absences_kept way rows)
few_absences way rows few =
    All-map (λ a. a.told.detection.confirmers < 2 ^ 63) absence_kept (filter (is_departure way) (rows_in_place rows))
    (All-filter (is_departure way) (λ p. (absence_kept p).told.detection.confirmers < 2 ^ 63) (rows_in_place rows)
    (All-weaker (λ p. length p.later ≤ length rows) (λ p. (absence_kept p).told.detection.confirmers < 2 ^ 63)
    (λ p later. omega (arith, later, few, few_of p.row.member p.later, count_by-le-length (tells_of what.Confirm p.row.member) (absence_of p.row.member p.later))) (rows_in_place rows) (few_later (length rows) [] rows (omega arith))))
