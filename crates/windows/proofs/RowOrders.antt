-- The rows of a part's steps stand in row order.
use Rattle.std.proofs.Common.{◌≡◌, ℕ, zero, suc, ◌+◌, ◌<◌, Bool, false, List, [], ◌∷◌, map, length, get_or, ap, subst, arith}
use Rattle.std.specs.List.{AllByRecursion}
use Rattle.std.specs.List.Sorted.{IsSorted}
use Rattle.std.specs.Ordering.{is_lt}
use Rattle.std.specs.declared.cmp.Ordering.{Ordering}
use Rattle.std.specs.declared.cmp.Ordering.TheVariants.{Less}
use Rattle.std.specs.Cmp.{IsTotalOrder}
use Rattle.base.specs.declared.key.Key.{Key}
use Rattle.base.specs.World.{Run}
use Rattle.base.specs.Rising.{IsRising, IsPlaceBefore}
use Rattle.base.proofs.Rising.{all_weaker, rows_rise}
use Rattle.scenario.specs.Setup.{Setup, IsSound}
use Rattle.trace.specs.declared.row.Row.{Row}
use Rattle.member.specs.declared.event_kind.EventKind.{EventKind}
use Rattle.member.specs.Places.{place_of}
use Rattle.member.specs.Step.{step}
use Rattle.member.proofs.Fair.{steps_later, steps_counted}
use Rattle.member_laws.specs.Runs.{Cluster}
use Rattle.windows.specs.Parts.{PartRun}
use Rattle.windows.proofs.Sorting.{by_turn}
use Rattle.windows.proofs.PartRuns.{Kept, kept_later, next_of}

module _ (s : Setup) (sound : IsSound s) (owns : ℕ → Bool) (bound : ℕ) where
  -- the steps of a part as a run of the machine that keeps only own events
  kept_run : (ks : List Key) (p v : Cluster) (out : List (Key × EventKind)) (rows : List Row) → PartRun (step s) owns bound p ks out rows v → Run (Kept (step s) owns) bound p ks rows v
  kept_run [] p v out rows run = (run.0, run.2)
  kept_run (k ∷ ks) p v out rows run =
      let is = run.5 in
      let early = is.early in
      (run.0, run.3, run.4, omega arith, next_of (step s) owns bound p run.0 k run.1 run.3 is, kept_run ks run.0 v run.2 run.4 run.6, run.8)

  pub part_rows_rise : (ks : List Key) (p v : Cluster) (out : List (Key × EventKind)) (rows : List Row) → PartRun (step s) owns bound p ks out rows v → IsRising IsPlaceBefore (map place_of rows)
  part_rows_rise ks p v out rows run =
      rows_rise (Kept (step s) owns) (kept_later (step s) owns (steps_later s sound)) bound place_of (steps_counted s sound) ks p v rows (kept_run ks p v out rows run)

-- ---- rows that rise are sorted

module _ {A : Type 0} (lt : A → A → Bool) where
  sorted_from_rising : (xs : List A) → IsRising (λ x y. lt y x ≡ false) xs → (k : ℕ) (d : A) → k + 1 < length xs → lt (get_or xs (k + 1) d) (get_or xs k d) ≡ false
  sorted_from_rising [] up k d within = absurd (omega arith)
  sorted_from_rising (x ∷ []) up k d within = absurd (omega arith)
  sorted_from_rising (x ∷ y ∷ ys) up zero d within = up.0.0
  sorted_from_rising (x ∷ y ∷ ys) up (suc k) d within =
      let e : suc (k + 1) ≡ suc k + 1 = omega arith in
      subst (λ n. lt (get_or (x ∷ y ∷ ys) n d) (get_or (y ∷ ys) k d) ≡ false) e (sorted_from_rising (y ∷ ys) up.1 k d (omega arith))

all_of_places : (P : Key × ℕ → Type 0) (rows : List Row) → AllByRecursion P (map place_of rows) → AllByRecursion (λ row. P (place_of row)) rows
all_of_places P [] all = tt
all_of_places P (row ∷ rows) all = (all.0, all_of_places P rows all.1)

module _ (cmp : Row → Row → Ordering) (total : IsTotalOrder cmp) (agrees : (a b : Row) → IsPlaceBefore (place_of a) (place_of b) → cmp a b ≡ Less) where
  after_place : (a b : Row) → IsPlaceBefore (place_of a) (place_of b) → is_lt (cmp b a) ≡ false
  after_place a b before = ap is_lt (by_turn cmp total a b Less (agrees a b before))

  rising_by_places : (rows : List Row) → IsRising IsPlaceBefore (map place_of rows) → IsRising (λ a b. is_lt (cmp b a) ≡ false) rows
  rising_by_places [] up = tt
  rising_by_places (row ∷ rows) up =
      (all_weaker _ (λ b. is_lt (cmp b row) ≡ false) (λ b before. after_place row b before) rows (all_of_places (IsPlaceBefore (place_of row)) rows up.0), rising_by_places rows up.1)

  pub sorted_by_places : (rows : List Row) → IsRising IsPlaceBefore (map place_of rows) → IsSorted cmp rows
  sorted_by_places rows up = λ k d low within. sorted_from_rising (λ a b. is_lt (cmp a b)) rows (rising_by_places rows up) k d within
