-- What a report of version 4 says, by what is kept of a run.
use Rattle.std.proofs.Common.{◌≡◌, ℕ, ◌<◌, Bool, true, false, List, [], ◌∷◌, length, map, refl, sym, ap, subst, ◌∙◌}
use Rattle.std.specs.Prelude.{Result, Ok, Err, IfOk, All, filter, if◌then◌else◌}
use Rattle.std.proofs.lemmas.List.{length-map}
use Rattle.std.proofs.lemmas.List.FromFn.{length-range_with_len}
use Rattle.std.proofs.lemmas.List.Elements.{All-map, All-filter, All-weaker}
use Rattle.trace.specs.declared.row.What.{What}
use Rattle.trace.specs.declared.row.What.TheVariants as what
use Rattle.trace.specs.declared.row.Row.{Row}
use Rattle.trace.specs.Text.{NamesMembers}
use Rattle.trace_rows.specs.Rows.{Placed, rows_in_place, has_kind, is_about}
use Rattle.trace_rows.proofs.Places.{All-placed_after}
use Rattle.scenario.specs.Setup.{Setup, member_count}
use Rattle.incidents.specs.declared.cluster.Cluster.{Cluster}
use Rattle.incidents.specs.Cluster.{IsClusterOf, IsSameCluster, starts_first}
use Rattle.incidents.specs.Lives.{members}
use Rattle.incidents.specs.Kept.{count_of}
use Rattle.incidents.specs.Returns.{is_return, return_told, returns_of}
use Rattle.reports.specs.declared.absence.Absence.{Absence}
use Rattle.reports.specs.Departures.{is_departure}
use Rattle.reports.specs.Absences.{as_confirm, with_left, with_others_left, absence_told, absences_of, is_wrong, wrongs_of}
use Rattle.reports.specs.Away.{absence_kept, absences_kept}
use Rattle.reports.proofs.Pushes.{placed_false_positive}

-- ---- clusters

pub same_cluster : (a b : Cluster) (s : Setup) → IsClusterOf b s → IsSameCluster a b → IsClusterOf a s
same_cluster a b s of same = record { founders = same.founders ∙ of.founders; troubles = same.troubles ∙ of.troubles; reach = same.reach ∙ of.reach }

-- it has as many members as the scenario
pub member_counts : (cluster : Cluster) (s : Setup) → IsClusterOf cluster s → count_of cluster ≡ member_count s
member_counts cluster s is = ap length is.founders ∙ length-map (members (member_count s)) (starts_first s) ∙ length-range_with_len 0 (member_count s)

-- ---- absences

told_each : (ps : List Placed) → map (λ (a : Absence). a.told) (map absence_kept ps) ≡ map absence_told ps
told_each [] = refl
told_each (p ∷ ps) = ap (λ l. absence_told p ∷ l) (told_each ps)

pub told_kept : (way : What) (rows : List Row) → map (λ (a : Absence). a.told) (absences_kept way rows) ≡ absences_of way rows
told_kept way rows = told_each (filter (is_departure way) (rows_in_place rows))

-- ---- who is named

abbrev IsMember : Setup → Row → Type 0
IsMember s row = row.member < member_count s

same_member : (row : Row) → (with_others_left row).member ≡ row.member
same_member row = by_self (is_about row.member row)
  where
    by_kind : (b : Bool) → (if b then as_confirm row else row).member ≡ row.member
    by_kind true = refl
    by_kind false = refl

    by_self : (b : Bool) → (if b then row else with_left row).member ≡ row.member
    by_self true = refl
    by_self false = by_kind (has_kind what.Left row)

named_rows : (s : Setup) (rows : List Row) → All (NamesMembers s) rows → All (IsMember s) (map with_others_left rows)
named_rows s rows named =
    All-map (IsMember s) with_others_left rows (All-weaker (NamesMembers s) (λ row. (with_others_left row).member < member_count s) (λ row names. subst (λ m. m < member_count s) (sym (same_member row)) names.member) rows named)

pub wrong_makers : (s : Setup) (claim : What) (rows : List Row) → All (NamesMembers s) rows → All (λ c. c.member < member_count s) (wrongs_of claim (map with_others_left rows))
wrong_makers s claim rows named =
    All-map (λ c. c.member < member_count s) placed_false_positive (filter (is_wrong claim) (rows_in_place (map with_others_left rows)))
    (All-filter (is_wrong claim) (λ p. p.row.member < member_count s) (rows_in_place (map with_others_left rows))
    (All-placed_after (IsMember s) [] (map with_others_left rows) (named_rows s rows named)))

pub absent_members : (s : Setup) (way : What) (rows : List Row) → All (NamesMembers s) rows → All (λ d. d.member < member_count s) (absences_of way (map with_others_left rows))
absent_members s way rows named =
    All-map (λ d. d.member < member_count s) absence_told (filter (is_departure way) (rows_in_place (map with_others_left rows)))
    (All-filter (is_departure way) (λ p. p.row.member < member_count s) (rows_in_place (map with_others_left rows))
    (All-placed_after (IsMember s) [] (map with_others_left rows) (named_rows s rows named)))

pub returned_members : (s : Setup) (count : ℕ) (rows : List Row) → All (NamesMembers s) rows → All (λ r. r.member < member_count s) (returns_of count rows)
returned_members s count rows named =
    All-map (λ r. r.member < member_count s) (return_told count) (filter is_return (rows_in_place rows))
    (All-filter is_return (λ p. p.row.member < member_count s) (rows_in_place rows)
    (All-placed_after (IsMember s) [] rows (All-weaker (NamesMembers s) (IsMember s) (λ row names. names.member) rows named)))

-- ---- what succeeds

pub if_ok_more : {A E : Type 0} (r : Result A E) {P Q : A → Type 0} → ((x : A) → P x → Q x) → IfOk r P → IfOk r Q
if_ok_more (Ok x) f held = f x held
if_ok_more (Err e) f held = tt
