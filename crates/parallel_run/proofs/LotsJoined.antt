-- Lots of the same moments, one part's after the other's.
use Rattle.std.proofs.Common.{◌≡◌, ◌≢◌, ℕ, ◌+◌, ◌<◌, Bool, true, List, [], ◌∷◌, ◌++◌, inl, inr, refl, append_assoc, append-nil, ap, ◌∙◌, sym, subst, arith}
use Rattle.std.specs.List.{AllByRecursion}
use Rattle.std.proofs.lemmas.Bool.{cases_eq}
use Rattle.base.proofs.Rising.{all_append}
use Rattle.trace.specs.declared.row.Row.{Row}
use Rattle.lookahead_windows.specs.Messages.{IsOneOf}
use Rattle.lookahead_windows.specs.Lots.{IsLot, HasLasted, PartRows, writer_of, every_row}
use Rattle.lookahead_windows.specs.Basis.{Basis, division_of, plan_of}
use Rattle.parallel_run.specs.declared.row_batch.RowBatch.{RowBatch}
use Rattle.parallel_run.specs.declared.batches.MergedBatch.{MergedBatch}
use Rattle.parallel_run.specs.Messages.{IsLotOfRun}
use Rattle.parallel_run.specs.Writing.{GoesAsFar}
use Rattle.parallel_run.proofs.JoiningNumbers.{HaveNumbersBelow, no_numbers, one_more_number}

-- what holds of the number of each of them, holds of a number that one of them has
pub holds_of_one : {X : Type 0} (P : ℕ → Type 0) (number : X → ℕ) (xs : List X) (n : ℕ) → AllByRecursion (λ x. P (number x)) xs → IsOneOf number xs n → P n
holds_of_one P number [] n all is = absurd is
holds_of_one P number (x ∷ xs) n all (inl same) = subst P same all.0
holds_of_one P number (x ∷ xs) n all (inr more) = holds_of_one P number xs n all.1 more

-- the rows of one more
pub every_row_more : (lots : List PartRows) (lot : PartRows) → every_row (lots ++ lot ∷ []) ≡ every_row lots ++ lot.rows
every_row_more [] lot = append-nil lot.rows
every_row_more (first ∷ lots) lot = ap (λ rows. first.rows ++ rows) (every_row_more lots lot) ∙ sym (append_assoc first.rows (every_row lots) lot.rows)

module _ (basis : Basis) (since : ℕ) where
  -- one after the other these are the rows of the parts below a number, up to a moment, and whether the parts have lasted
  pub record AreLotsBelow (number until round : ℕ) (last : Bool) (rows : List Row) : Type 0 where
    pub lots : List PartRows
    pub numbers : HaveNumbersBelow writer_of number lots
    pub each : AllByRecursion (λ (lot : PartRows). IsLot basis.setup (division_of basis) lot.part since until lot.rows) lots
    pub lasted : last ≡ true → AllByRecursion (λ (lot : PartRows). (until ≡ basis.setup.end + 1) × HasLasted (plan_of basis) lot.part round) lots
    pub rows_are : rows ≡ every_row lots

  -- of no part
  pub no_lots : (until round : ℕ) (last : Bool) (rows : List Row) → rows ≡ [] → AreLotsBelow 0 until round last rows
  no_lots until round last rows none = record { lots = []; numbers = no_numbers writer_of; each = tt; lasted = λ _. tt; rows_are = none }

  none_below : (lots : List PartRows) (number : ℕ) → number ≡ 0 → AllByRecursion (λ lot. writer_of lot < number) lots → lots ≡ []
  none_below [] number zero below = refl
  none_below (lot ∷ lots) number zero below = absurd (omega (arith, below.0))

  -- where there are none, up to whatever moment
  up_to : (number until round later other : ℕ) (last ends : Bool) (rows : List Row) → (number ≢ 0 → (later ≡ until) × (other ≡ round) × (ends ≡ last)) → AreLotsBelow number until round last rows → AreLotsBelow number later other ends rows
  up_to number until round later other last ends rows same are = elim (cases_eq number 0) [
    | inl zero ↦
        let none = none_below are.lots number zero are.numbers.below in
        record {
          lots = [];
          numbers = subst (HaveNumbersBelow writer_of number) none are.numbers;
          each = tt;
          lasted = λ _. tt;
          rows_are = are.rows_are ∙ ap every_row none;
        }
    | inr some ↦
        let is = same some in
        subst (λ b. AreLotsBelow number later other b rows) (sym is.2) (subst (λ r. AreLotsBelow number later r last rows) (sym is.1) (subst (λ n. AreLotsBelow number n round last rows) (sym is.0) are))
  ]

  -- of one part more
  one_more_lot : (number until round : ℕ) (last : Bool) (rows more : List Row) (lot : RowBatch) → AreLotsBelow number until round last rows → IsLotOfRun basis lot → lot.from ≡ number → lot.since ≡ since
      → (number ≢ 0 → (lot.until ≡ until) × (lot.round ≡ round) × (lot.last ≡ last)) → more ≡ rows ++ lot.rows.items → AreLotsBelow (number + 1) lot.until lot.round lot.last more
  one_more_lot number until round last rows more lot were is of_part from same joined =
      let are = up_to number until round lot.until lot.round last lot.last rows same were in
      let one : PartRows = record { part = lot.from; rows = lot.rows.items } in
      record {
        lots = are.lots ++ one ∷ [];
        numbers = one_more_number writer_of number are.lots one are.numbers of_part;
        each =
            all_append (λ (l : PartRows). IsLot basis.setup (division_of basis) l.part since lot.until l.rows) are.lots (one ∷ []) are.each
            (subst (λ n. IsLot basis.setup (division_of basis) lot.from n lot.until lot.rows.items) from is.rows, tt);
        lasted = λ ends. all_append (λ (l : PartRows). (lot.until ≡ basis.setup.end + 1) × HasLasted (plan_of basis) l.part lot.round) are.lots (one ∷ []) (are.lasted ends) (is.last ends, tt);
        rows_are = joined ∙ ap (λ l. l ++ lot.rows.items) are.rows_are ∙ sym (every_row_more are.lots one);
      }

  -- which the turn so far has
  pub one_more_in_turn : (number : ℕ) (before after : MergedBatch) (lot : RowBatch) → AreLotsBelow number before.until before.round before.last before.rows.items → IsLotOfRun basis lot
      → (lot.from ≡ number) × (lot.since ≡ since) × (number ≢ 0 → GoesAsFar lot before)
      → (after.rows.items ≡ before.rows.items ++ lot.rows.items) × (after.until ≡ lot.until) × (after.round ≡ lot.round) × (after.last ≡ lot.last) → AreLotsBelow (number + 1) after.until after.round after.last after.rows.items
  one_more_in_turn number before after lot were is fits with =
      subst (λ b. AreLotsBelow (number + 1) after.until after.round b after.rows.items) (sym with.3)
      (subst (λ r. AreLotsBelow (number + 1) after.until r lot.last after.rows.items) (sym with.2)
      (subst (λ n. AreLotsBelow (number + 1) n lot.round lot.last after.rows.items) (sym with.1)
      (one_more_lot number before.until before.round before.last before.rows.items after.rows.items lot were is fits.0 fits.1 fits.2 with.0)))
