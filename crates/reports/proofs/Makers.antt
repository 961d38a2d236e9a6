-- How many claims were false, and how many of them were made by healthy members.
use Rattle.std.proofs.Common.{◌≡◌, ◌<◌, suc, Bool, true, false, cond, ◌&&◌, List, [], ◌∷◌, length, map, refl, sym, ap, ◌∙◌}
use Rattle.std.specs.Prelude.{filter, count_by, All}
use Rattle.std.proofs.lemmas.List.{length-map}
use Rattle.std.proofs.lemmas.List.Sums.{length-filter}
use Rattle.std.proofs.lemmas.List.Elements.{All-map, All-filter, All-weaker}
use Rattle.scenario.specs.Setup.{Setup, member_count}
use Rattle.trace.specs.declared.row.What.{What}
use Rattle.trace.specs.declared.row.Row.{Row}
use Rattle.trace.specs.Text.{NamesMembers}
use Rattle.trace_rows.specs.Rows.{rows_in_place}
use Rattle.reports.specs.FalsePositives.{ways_to_depart, is_false_positive, is_healthy_false_positive, false_positives, healthy_false_positives}
use Rattle.reports.specs.Failures.{false_positives_of, is_healthy_maker}
use Rattle.reports.proofs.Places.{All-placed_after}
use Rattle.reports.proofs.Pushes.{placed_false_positive}

module _ {X Y : Type 0} (make : X → Y) (kept : X → Bool) (test : Y → Bool) where
  made_one : (keep : Bool) (x : X) (xs : List X) → filter test (map make (cond keep (x ∷ xs) xs)) ≡ cond (keep && test (make x)) (make x ∷ filter test (map make xs)) (filter test (map make xs))
  made_one true x xs = refl
  made_one false x xs = refl

  longer : (keep : Bool) (y : Y) (x : X) (ys : List Y) (xs : List X) → length ys ≡ length xs → length (cond keep (y ∷ ys) ys) ≡ length (cond keep (x ∷ xs) xs)
  longer true y x ys xs same = ap suc same
  longer false y x ys xs same = same

  -- how many of what is made of those that are kept pass a test
  count_made : (xs : List X) → length (filter test (map make (filter kept xs))) ≡ length (filter (λ x. kept x && test (make x)) xs)
  count_made [] = refl
  count_made (x ∷ xs) =
      ap length (made_one (kept x) x (filter kept xs))
      ∙ longer (kept x && test (make x)) (make x) x (filter test (map make (filter kept xs))) (filter (λ x. kept x && test (make x)) xs) (count_made xs)

pub all_false_positives : (claim : What) (rows : List Row) → length (false_positives_of claim rows) ≡ false_positives ways_to_depart claim rows
all_false_positives claim rows = length-map (filter (is_false_positive ways_to_depart claim) (rows_in_place rows)) placed_false_positive ∙ length-filter (is_false_positive ways_to_depart claim) (rows_in_place rows)

pub healthy_makers : (s : Setup) (claim : What) (rows : List Row) → count_by (is_healthy_maker s) (false_positives_of claim rows) ≡ healthy_false_positives s ways_to_depart claim rows
healthy_makers s claim rows =
    sym (length-filter (is_healthy_maker s) (false_positives_of claim rows))
    ∙ count_made placed_false_positive (is_false_positive ways_to_depart claim) (is_healthy_maker s) (rows_in_place rows)
    ∙ length-filter (is_healthy_false_positive s ways_to_depart claim) (rows_in_place rows)

-- whoever makes a false claim is a member where the rows name members alone
pub makers_are_members : (s : Setup) (claim : What) (rows : List Row) → All (NamesMembers s) rows → All (λ claim. claim.member < member_count s) (false_positives_of claim rows)
makers_are_members s claim rows named =
    All-map (λ claim. claim.member < member_count s) placed_false_positive (filter (is_false_positive ways_to_depart claim) (rows_in_place rows))
    (All-filter (is_false_positive ways_to_depart claim) (λ p. p.row.member < member_count s) (rows_in_place rows)
    (All-placed_after (λ row. row.member < member_count s) [] rows (All-weaker (NamesMembers s) (λ row. row.member < member_count s) (λ row names. names.member) rows named)))
