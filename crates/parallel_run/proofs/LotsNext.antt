-- Lots of all parts, sorted, are the next turn.
use Rattle.std.proofs.Common.{◌≡◌, ℕ, ◌+◌, ◌<◌, Bool, true, false, List, ◌++◌, refl, subst, arith}
use Rattle.std.specs.Bool.{OnTrue}
use Rattle.std.specs.List.Sorted.{IsPermutation, IsSorted}
use Rattle.std.specs.declared.cmp.Ordering.{Ordering}
use Rattle.scenario.specs.Setup.{member_count}
use Rattle.trace.specs.declared.row.Row.{Row}
use Rattle.member_laws.specs.Runs.{IsRunOf, CounterOverflows}
use Rattle.windows.specs.Cluster.{IsRowOrder}
use Rattle.turns.proofs.Lasting.{wears_nothing}
use Rattle.lookahead_windows.specs.Lots.{HasLasted, AreLotsOfAll, writer_of}
use Rattle.lookahead_windows.proofs.Worlds.{ends_before}
use Rattle.lookahead_windows.proofs.Lots.{lots_next}
use Rattle.lookahead_windows.proofs.Lasting.{world_of_end}
use Rattle.lookahead_windows.specs.Basis.{Basis, IsBasis, division_of, plan_of}
use Rattle.parallel_run.specs.declared.batches.MergedBatch.{MergedBatch}
use Rattle.parallel_run.specs.Writing.{HasComeTo, IsNextTurn}
use Rattle.parallel_run.proofs.LotsJoined.{AreLotsBelow, holds_of_one}

where_true : {P : Type 0} (b : Bool) → (b ≡ true → P) → OnTrue b P
where_true true gives = gives refl
where_true false gives = tt

module _ (basis : Basis) (is : IsBasis basis) (since until round : ℕ) (last : Bool) (rows : List Row) (are : AreLotsBelow basis since basis.deal.parts until round last rows) where
  -- each part with members has its lot
  of_all : AreLotsOfAll basis.setup (division_of basis) since until are.lots
  of_all = record { each = are.each; different = are.numbers.different; complete = λ m low. are.numbers.complete (division_of basis m) (is.plan.below m low) }

  all_lasted : last ≡ true → (m : ℕ) → m < member_count basis.setup → (until ≡ basis.setup.end + 1) × HasLasted (plan_of basis) (division_of basis m) round
  all_lasted ends m low =
      holds_of_one (λ n. (until ≡ basis.setup.end + 1) × HasLasted (plan_of basis) n round) writer_of are.lots (division_of basis m) (are.lasted ends) (are.numbers.complete (division_of basis m) (is.plan.below m low))

  -- no counter is past its limit where the run ends
  nothing_overflow : last ≡ true → ¬ (CounterOverflows basis.setup)
  nothing_overflow ends =
      let end = world_of_end (plan_of basis) round is.plan (λ m low. (all_lasted ends m low).1) in
      wears_nothing basis.setup is.plan.sound end.0 end.1 end.2 end.3 end.4 end.5

  module _ (sorted : List Row) (cmp : Row → Row → Ordering) (order : IsRowOrder cmp) (same : IsPermutation rows sorted) (up : IsSorted cmp sorted) where
    next_rows : (before : List Row) → HasComeTo basis since before → HasComeTo basis until (before ++ sorted)
    next_rows before come =
        lots_next basis.setup (division_of basis) since until are.lots before sorted cmp is.plan.sound come of_all order
        (subst (λ l. IsPermutation l sorted) are.rows_are same) up

    all_rows : last ≡ true → (before : List Row) → HasComeTo basis since before → IsRunOf basis.setup (before ++ sorted)
    all_rows ends before come = let lasted = all_lasted ends 0 is.plan.sound.members.0 in ends_before basis.setup until (before ++ sorted) (next_rows before come) (omega (arith, lasted.0))

-- the lots of all parts, once they are sorted
pub turn_of_all : (basis : Basis) (since : ℕ) (turn : MergedBatch) (rows : List Row) (cmp : Row → Row → Ordering) → IsBasis basis → AreLotsBelow basis since basis.deal.parts turn.until turn.round turn.last rows
    → IsRowOrder cmp → IsPermutation rows turn.rows.items → IsSorted cmp turn.rows.items → IsNextTurn basis since turn
turn_of_all basis since turn rows cmp is are order same up = record {
  next = next_rows basis is since turn.until turn.round turn.last rows are turn.rows.items cmp order same up;
  whole = where_true turn.last (all_rows basis is since turn.until turn.round turn.last rows are turn.rows.items cmp order same up);
  lasts = where_true turn.last (nothing_overflow basis is since turn.until turn.round turn.last rows are);
}
