-- The rows of windows in row order.
use Rattle.std.proofs.Common.{◌≡◌, ℕ, ◌+◌, ◌<◌, Bool, true, false, cond, not, eqb, List, [], ◌∷◌, ◌++◌, map, length, take, vec_len, append-nil, count_by, ap, ◌∙◌, sym, subst, refl, arith}
use Rattle.std.specs.Bool.{OnTrue}
use Rattle.std.specs.List.{flat_map}
use Rattle.std.specs.List.Sorted.{IsPermutation}
use Rattle.std.specs.declared.cmp.Ordering.{Ordering}
use Rattle.std.specs.declared.cmp.Ordering.TheVariants.{Less}
use Rattle.std.specs.FinMap.{FinMap}
use Rattle.std.proofs.lemmas.Bool.{true≢false, eqb-true}
use Rattle.std.proofs.Math.Seq.{take-append_seam}
use Rattle.std.proofs.lemmas.List.Sums.{sum_by-cons}
use Rattle.std.specs.Cmp.{IsTotalOrder}
use Rattle.base.specs.Order.{key_cmp}
use Rattle.base.specs.Rising.{IsRising, IsPlaceBefore}
use Rattle.scenario.specs.Setup.{Setup, IsSound}
use Rattle.trace.specs.declared.row.Row.{Row}
use Rattle.member.specs.declared.event.Event.{Event}
use Rattle.member.specs.Places.{place_of}
use Rattle.member.specs.StateOf.{pair_of}
use Rattle.windows.specs.declared.bounded.Bounded.{Bounded}
use Rattle.windows.specs.declared.part.Done.{Done}
use Rattle.windows.specs.WorldOf.{world_of}
use Rattle.windows.specs.Window.{is_own}
use Rattle.windows.proofs.RowOrders.{part_rows_rise, sorted_by_places}
use Rattle.windows.specs.Several.{RanWindows}
use Rattle.turns.specs.Parts.{RowsRise, IsInRowOrder}

module _ {Q : Type 0} (set : Q → FinMap key_cmp Event) (s : Setup) (sound : IsSound s) where
  -- so does each window
  pub windows_rise : (ps : List (Bounded Q)) (ds : List (Done Q)) → RanWindows set s ps ds → RowsRise ds
  windows_rise [] [] had = tt
  windows_rise [] (d ∷ ds) had = absurd had
  windows_rise (p ∷ ps) [] had = absurd had
  windows_rise (p ∷ ps) (d ∷ ds) had = (
    part_rows_rise s sound (is_own (world_of set p.part)) p.bound had.0.0.0 (world_of set p.part) (world_of set d.part) (map pair_of d.out.items) d.rows.items had.0.0.1.run,
    windows_rise ps ds had.1,
  )

pub when_true : {P : Type 0} (b : Bool) → b ≡ true → OnTrue b P → P
when_true true e p = p
when_true false e p = absurd (true≢false (sym e))

-- ---- where one part alone wrote rows

module _ {Q : Type 0} where
  abbrev pub wrote : Done Q → Bool
  wrote d = not (eqb (vec_len d.rows) 0)

  no_rows : (d : Done Q) → wrote d ≡ false → d.rows.items ≡ []
  no_rows d none = empty_list d.rows.items (by_test (eqb (vec_len d.rows) 0) refl none)
    where
      empty_list : (rows : List Row) → length rows ≡ 0 → rows ≡ []
      empty_list [] e = refl
      empty_list (row ∷ rows) e = absurd (omega arith)

      by_test : (b : Bool) → eqb (vec_len d.rows) 0 ≡ b → not b ≡ false → length d.rows.items ≡ 0
      by_test true e h = let many = eqb-true (vec_len d.rows) 0 e in omega (arith, d.rows.ok.0)
      by_test false e h = absurd (true≢false h)

  none_or_more : (d : Done Q) (rest : List Row) (n : ℕ) (b : Bool) → wrote d ≡ b → cond b 1 0 + n ≡ 0 → (n ≡ 0 → rest ≡ []) → d.rows.items ++ rest ≡ []
  none_or_more d rest n true is none later = absurd (omega arith)
  none_or_more d rest n false is none later = ap (λ l. l ++ rest) (no_rows d is) ∙ later (omega arith)

  none_wrote : (ds : List (Done Q)) → count_by wrote ds ≡ 0 → flat_map (λ d. d.rows.items) ds ≡ []
  none_wrote [] none = refl
  none_wrote (d ∷ ds) none =
      let more = sum_by-cons (λ (d : Done Q). cond (wrote d) 1 0) d ds in
      none_or_more d (flat_map (λ d. d.rows.items) ds) (count_by wrote ds) (wrote d) refl (omega arith) (none_wrote ds)

  one_or_more : (d : Done Q) (rest : List Row) (n : ℕ) (b : Bool) → wrote d ≡ b → cond b 1 0 + n < 2 → IsRising IsPlaceBefore (map place_of d.rows.items) → (n ≡ 0 → rest ≡ [])
      → (n < 2 → IsRising IsPlaceBefore (map place_of rest)) → IsRising IsPlaceBefore (map place_of (d.rows.items ++ rest))
  one_or_more d rest n true is few up none later =
      subst (λ l. IsRising IsPlaceBefore (map place_of l)) (sym (ap (λ l. d.rows.items ++ l) (none (omega arith)) ∙ append-nil d.rows.items)) up
  one_or_more d rest n false is few up none later = subst (λ l. IsRising IsPlaceBefore (map place_of (l ++ rest))) (sym (no_rows d is)) (later (omega arith))

  pub one_alone : (ds : List (Done Q)) → count_by wrote ds < 2 → RowsRise ds → IsRising IsPlaceBefore (map place_of (flat_map (λ d. d.rows.items) ds))
  one_alone [] few up = tt
  one_alone (d ∷ ds) few up =
      let more = sum_by-cons (λ (d : Done Q). cond (wrote d) 1 0) d ds in
      one_or_more d (flat_map (λ d. d.rows.items) ds) (count_by wrote ds) (wrote d) refl (omega arith) up.0 (none_wrote ds) (λ low. one_alone ds low up.1)

as_it_is : {A : Type 0} (xs ys : List A) → ys ≡ xs → IsPermutation xs ys
as_it_is xs ys same = record { moves = []; below = tt; is = same }

-- what a sort has written over the whole list
pub all_written : {A : Type 0} (n : ℕ) (xs ys : List A) → length xs ≡ n → take n (xs ++ ys) ≡ xs
all_written n xs ys many = subst (λ k. take k (xs ++ ys) ≡ xs) many (take-append_seam xs ys)

-- rows that stand in the order of their places are in row order
pub in_order_already : (cmp : Row → Row → Ordering) → IsTotalOrder cmp → ((a b : Row) → IsPlaceBefore (place_of a) (place_of b) → cmp a b ≡ Less) → (rows : List Row)
    → IsRising IsPlaceBefore (map place_of rows) → IsInRowOrder rows rows
in_order_already cmp total agrees rows up = (cmp, record { total = total; agrees = agrees }, as_it_is rows rows refl, sorted_by_places cmp total agrees rows up)
