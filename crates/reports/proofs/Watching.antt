-- What version 4 asks of a run, with one row more.
use Rattle.std.proofs.Common.{◌≡◌, ℕ, ◌<◌, ◌^◌, ◌&&◌, ◌||◌, ◌==◌, Bool, true, false, ◌++◌, ◌∷◌, [], List, length, map, refl, sym, ap, subst, ◌∙◌, arith, add-zero}
use Rattle.std.specs.Prelude.{if◌then◌else◌}
use Rattle.std.specs.Option.{option_map_or}
use Rattle.std.proofs.lemmas.List.{map-append, length-map}
use Rattle.trace.specs.declared.row.What.TheVariants as what
use Rattle.trace.specs.declared.row.Row.{Row}
use Rattle.trace_rows.specs.Rows.{has_kind, is_about}
use Rattle.reports.specs.declared.watch.Watch.{Watch}
use Rattle.reports.specs.declared.absences.Absences.{Absences}
use Rattle.reports.specs.declared.revivals.Revivals.{Revivals}
use Rattle.incidents.specs.declared.incidents.Incidents.{Incidents}
use Rattle.incidents.specs.Observed.{AreIncidentsOf}
use Rattle.incidents.specs.Telling.{reports_nothing}
use Rattle.incidents.proofs.Telling.{not_told}
use Rattle.reports.specs.Revivals.{is_view, is_back}
use Rattle.reports.specs.Held.{failed_of, failed_with, AreRevivalsOf}
use Rattle.reports.specs.Absences.{as_confirm, with_left, with_others_left}
use Rattle.reports.specs.Away.{AreAbsencesOf}
use Rattle.reports.specs.Watched.{IsWatchOf}
use Rattle.reports.proofs.Returning.{count-push, failed-push}
use Rattle.reports.proofs.Aways.{same_absences, other_wrong}

-- as many rows are read as there are
pub few_read : (read : Row → Row) (rows : List Row) → length rows < 2 ^ 63 → length (map read rows) < 2 ^ 63
few_read read rows few = let same = length-map rows read in omega (arith, few, same)

pub watched_more : (watch : Watch) (rows : List Row) (row : Row)
    → AreAbsencesOf watch.absences (map with_others_left rows ++ with_others_left row ∷ []) → AreRevivalsOf watch.revivals (map with_left rows ++ with_left row ∷ [])
    → AreIncidentsOf watch.incidents (rows ++ row ∷ []) → IsWatchOf watch (rows ++ row ∷ [])
watched_more watch rows row absences revivals incidents =
    record {
      absences = subst (AreAbsencesOf watch.absences) (sym (map-append with_others_left rows (row ∷ []))) absences;
      revivals = subst (AreRevivalsOf watch.revivals) (sym (map-append with_left rows (row ∷ []))) revivals;
      incidents = incidents;
    }

-- ---- a row that tells nothing

left_as_is : (row : Row) → reports_nothing row ≡ true → row ≡ with_left row
left_as_is row nothing = sym (ap (λ b. if b then as_confirm row else row) (not_told what.Left row (λ r. refl) nothing))

either : (b : Bool) (row other : Row) → row ≡ other → row ≡ (if b then row else other)
either true row other same = refl
either false row other same = same

others_as_is : (row : Row) → reports_nothing row ≡ true → row ≡ with_others_left row
others_as_is row nothing = either (is_about row.member row) row (with_left row) (left_as_is row nothing)

absences_stay : (absences : Absences) (rows : List Row) (row : Row) → reports_nothing row ≡ true → AreAbsencesOf absences rows → AreAbsencesOf absences (rows ++ row ∷ [])
absences_stay absences rows row nothing are =
    let suspect = not_told what.Suspect row (λ r. refl) nothing in
    let confirm = not_told what.Confirm row (λ r. refl) nothing in
    let restart = not_told what.Restart row (λ r. refl) nothing in
    record {
      crashed = are.crashed ∙ sym (same_absences what.Crash rows row (not_told what.Crash row (λ r. refl) nothing) suspect confirm restart);
      left = are.left ∙ sym (same_absences what.Leave rows row (not_told what.Leave row (λ r. refl) nothing) suspect confirm restart);
      suspected = are.suspected ∙ sym (other_wrong what.Suspect rows row suspect);
      confirmed = are.confirmed ∙ sym (other_wrong what.Confirm rows row confirm);
    }

none_of : (a s c : Bool) → a ≡ false → s ≡ false → c ≡ false → (a || (s || (c || false))) ≡ false
none_of a s c first second third = ap (λ b. b || (s || (c || false))) first ∙ ap (λ b. b || (c || false)) second ∙ ap (λ b. b || false) third

revivals_stay : (r : Revivals) (rows : List Row) (row : Row) → reports_nothing row ≡ true → AreRevivalsOf r rows → AreRevivalsOf r (rows ++ row ∷ [])
revivals_stay r rows row nothing are =
    let alive = not_told what.Alive row (λ w. refl) nothing in
    let view : is_view row ≡ false =
    none_of _ _ _ alive (not_told what.Suspect row (λ w. refl) nothing) (not_told what.Confirm row (λ w. refl) nothing) in
    let back : false ≡ is_back (failed_of r) row = sym (ap (λ b. b && option_map_or (failed_of r row.member) row.about false) alive) in
    let same : (a b : ℕ) → failed_of r a b ≡ failed_with row (failed_of r) a b =
    λ a b. sym (ap (λ v. if v && ((row.member == a) && is_about b row) then has_kind what.Confirm row else failed_of r a b) view) in
    record {
      all = sym (add-zero r.count) ∙ count-push r.count 0 false (failed_of r) rows row are.all refl back are.held;
      held = failed-push (failed_of r) (failed_of r) rows row are.held same;
    }

pub watched_nothing : (watch : Watch) (incidents : Incidents) (rows : List Row) (row : Row) → reports_nothing row ≡ true → IsWatchOf watch rows
    → AreIncidentsOf incidents (rows ++ row ∷ []) → IsWatchOf (record watch { incidents = incidents }) (rows ++ row ∷ [])
watched_nothing watch incidents rows row nothing are more =
    watched_more (record watch { incidents = incidents }) rows row
    (subst (λ r. AreAbsencesOf watch.absences (map with_others_left rows ++ r ∷ [])) (others_as_is row nothing) (absences_stay watch.absences (map with_others_left rows) row nothing are.absences))
    (subst (λ r. AreRevivalsOf watch.revivals (map with_left rows ++ r ∷ [])) (left_as_is row nothing) (revivals_stay watch.revivals (map with_left rows) row nothing are.revivals))
    more
