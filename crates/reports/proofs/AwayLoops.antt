-- A loop over all absences.
use Rattle.std.proofs.Common.{◌≡◌, ℕ, ◌+◌, ◌-◌, ◌<◌, ◌^◌, List, ◌++◌, length, get_or, set, take, drop, map, sym, ap, subst, ◌∙◌, arith, add-zero}
use Rattle.std.specs.Prelude.{All}
use Rattle.std.proofs.lemmas.List.{length-map, length-take-le, get_or-append_right, get_or-drop}
use Rattle.std.proofs.lemmas.List.Edits.{map_over_more}
use Rattle.std.proofs.lemmas.List.Elements.{All-get_or}
use Rattle.trace.specs.declared.row.Row.{Row}
use Rattle.reports.specs.declared.absence.Absence.{Absence}
use Rattle.reports.specs.Away.{absence_with}

pub seen_more : (row : Row) (these now : List Absence) (i : ℕ) (x y : Absence) → i < length these → now ≡ map (absence_with row) (take i these) ++ drop i these
    → x ≡ get_or now i x → y ≡ absence_with row (get_or now i x) → set now i y ≡ map (absence_with row) (take (i + 1) these) ++ drop (i + 1) these
seen_more row these now i x y lt so_far is seen =
    ap (set now i) (seen ∙ ap (absence_with row) (sym is)) ∙ map_over_more (absence_with row) these now i x lt so_far is

-- the next absence has few confirmers, where all have that few before
pub few_here : (row : Row) (these now : List Absence) (i : ℕ) (x : Absence) → i < length these → now ≡ map (absence_with row) (take i these) ++ drop i these
    → All (λ a. a.told.detection.confirmers < 2 ^ 63) these → (get_or now i x).told.detection.confirmers < 2 ^ 63
few_here row these now i x lt so_far few =
    let long : length (map (absence_with row) (take i these)) ≡ i = length-map (take i these) (absence_with row) ∙ length-take-le i these (omega (arith, lt)) in
    let none : i - i ≡ 0 = omega arith in
    let here : get_or now i x ≡ get_or these i x =
    ap (λ l. get_or l i x) so_far ∙ get_or-append_right (map (absence_with row) (take i these)) (drop i these) i i x long (omega arith)
    ∙ ap (λ k. get_or (drop i these) k x) none ∙ get_or-drop i these 0 x ∙ ap (λ k. get_or these k x) (add-zero i) in
    subst (λ (a : Absence). a.told.detection.confirmers < 2 ^ 63) (sym here) (All-get_or (λ a. a.told.detection.confirmers < 2 ^ 63) these i x lt few)
