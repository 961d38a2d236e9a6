-- The settings on the front are distinguished by their places.
use Rattle.std.proofs.Common.{◌≡◌, ℕ, Bool, true, false, List, [], ◌∷◌, ◌++◌, Option, Some, None, refl, ap, sym, ◌∙◌, subst}
use Rattle.std.specs.Prelude.{if◌then◌else◌, length, option_map, option_to_list, slice_get}
use Rattle.std.specs.List.{AllByRecursion, flat_map, range_with_len}
use Rattle.std.specs.Option.{option_map_or}
use Rattle.std.proofs.lemmas.Option.{same_Some}
use Rattle.figures.specs.declared.summary.SettingSummary.{SettingSummary}
use Rattle.std.specs.List.Sorted.{IsPermutation, IsSorted}
use Rattle.sweep_page.specs.Points.{across_of, point_of, front_point, point_at, points_at, front_settings, by_speed, is_marked}
use Rattle.sweep_page.proofs.Order.{point_cmp, sorted_by_speed}
use Rattle.sweep_page.specs.declared.front_points.FrontPoint.{FrontPoint}

of_time : (place : ℕ) (setting : SettingSummary) (time : Option ℕ) (p : FrontPoint) → option_map (point_of place setting) time ≡ Some p → p.place ≡ place
of_time place setting None p is = absurd cc
of_time place setting (Some time) p is = ap (λ (q : FrontPoint). q.place) (sym (same_Some (point_of place setting time) p is))

of_setting : (crashed : Bool) (place : ℕ) (setting : Option SettingSummary) (p : FrontPoint) → option_map_or (front_point crashed place) setting None ≡ Some p → p.place ≡ place
unfolding front_point
of_setting crashed place None p is = absurd cc
of_setting crashed place (Some setting) p is = of_time place setting (across_of crashed setting) p is

of_mark : (crashed : Bool) (place : ℕ) (marked : Bool) (setting : Option SettingSummary) (p : FrontPoint) → (if marked then option_map_or (front_point crashed place) setting None else None) ≡ Some p → p.place ≡ place
of_mark crashed place true setting p is = of_setting crashed place setting p is
of_mark crashed place false setting p is = absurd cc

module _ (crashed : Bool) (settings : List SettingSummary) (front : List Bool) where
  -- it is the setting at its place
  abbrev IsAtPlace : FrontPoint → Type 0
  IsAtPlace p = point_at crashed settings front p.place ≡ Some p

  one_point : (p q : FrontPoint) → IsAtPlace p → IsAtPlace q → p.place ≡ q.place → p ≡ q
  one_point p q first second same = same_Some p q (sym first ∙ ap (point_at crashed settings front) same ∙ second)

  one_at : (place : ℕ) (o : Option FrontPoint) → point_at crashed settings front place ≡ o → AllByRecursion IsAtPlace (option_to_list o)
  one_at place None is = tt
  one_at place (Some p) is =
      (subst (λ n. point_at crashed settings front n ≡ Some p) (sym (of_mark crashed place (is_marked front place) (slice_get settings place) p is)) is, tt)

  both : (xs ys : List FrontPoint) → AllByRecursion IsAtPlace xs → AllByRecursion IsAtPlace ys → AllByRecursion IsAtPlace (xs ++ ys)
  both [] ys first more = more
  both (x ∷ xs) ys first more = (first.0, both xs ys first.1 more)

  all_at : (places : List ℕ) → AllByRecursion IsAtPlace (flat_map (points_at crashed settings front) places)
  all_at [] = tt
  all_at (place ∷ places) = both (points_at crashed settings front place) (flat_map (points_at crashed settings front) places) (one_at place (point_at crashed settings front place) refl) (all_at places)

  all_at_places : AllByRecursion IsAtPlace (front_settings crashed settings front)
  all_at_places = all_at (range_with_len 0 (length settings))

  -- those that were gathered, once they are sorted
  pub in_one_order : (old new : List FrontPoint) → old ≡ front_settings crashed settings front → IsPermutation old new → IsSorted point_cmp new → new ≡ by_speed (front_settings crashed settings front)
  in_one_order old new are moved sorted =
      sorted_by_speed IsAtPlace one_point (front_settings crashed settings front) new all_at_places (subst (λ (xs : List FrontPoint). IsPermutation xs new) are moved) sorted
