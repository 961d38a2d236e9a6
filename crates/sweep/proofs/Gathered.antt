-- How runs are gathered by their settings.
use Rattle.std.proofs.Common.{◌≡◌, ℕ, ◌+◌, ◌-◌, ◌*◌, ◌<◌, ◌≤◌, Bool, true, false, List, [], ◌∷◌, ◌++◌, refl, sym, ap, subst, ◌∙◌, arith, take, drop, length, length-append, length-drop, ⊎_elim}
use Rattle.std.specs.Prelude.{nat_le}
use Rattle.std.proofs.Math.Seq.{drop-nil}
use Rattle.std.proofs.lemmas.Nat.{mul-le}
use Rattle.std.proofs.lemmas.List.{take_all, drop_all, take-append-le, drop-append-le}
use Rattle.std.proofs.lemmas.Option.{none-some, slice_get_within}
use Rattle.figures.specs.declared.summary.SettingSummary.{SettingSummary}
use Rattle.figures.specs.declared.setting.SettingFigures.{SettingFigures}
use Rattle.figures.specs.Notes.{Note}
use Rattle.figures.specs.Settings.{IsSummaryOf}
use Rattle.figures.specs.Kept.{AreFiguresOf, runs_kept}
use Rattle.figures.proofs.Roots.{le_from, lt_from}
use Rattle.sweep_plan.specs.Sweep.{Sweep, setting_count, seed_count, run_count}
use Rattle.sweep.specs.declared.gathering.Gathering.{Gathering}
use Rattle.sweep.specs.Summaries.{runs_of_setting, SumUp, IsGathered}
use Rattle.sweep.proofs.Pushed.{pushed}

-- between a multiple and the next there is no other
same_multiple : (k n m : ℕ) → k * m ≤ n * m → n * m < k * m + m → k ≡ n
same_multiple k n m low high = by (nat_le k n) (nat_le n k) refl refl
  where
    by : (b d : Bool) → nat_le k n ≡ b → nat_le n k ≡ d → k ≡ n
    by true true e h = omega (arith, le_from k n e, le_from n k h)
    by true false e h =
        let lt : k + 1 ≤ n = omega (arith, lt_from n k h) in
        let more : (k + 1) * m ≡ k * m + m = omega arith in
        absurd (omega (arith, high, more, mul-le (k + 1) m n m lt (omega arith)))
    by false d e h =
        let lt : n + 1 ≤ k = omega (arith, lt_from k n e) in
        let more : (n + 1) * m ≡ n * m + m = omega arith in
        absurd (omega (arith, low, high, more, mul-le (n + 1) m k m lt (omega arith)))

-- nothing is gathered
pub none_gathered : (each : ℕ) (gathering : Gathering) → gathering.each ≡ each → gathering.summaries.items ≡ [] → AreFiguresOf gathering.figures []
    → IsGathered each [] gathering
none_gathered each gathering size none kept =
    record {
      size = size;
      through = subst (λ (l : List SettingSummary). length l * each ≤ 0) (sym none) (omega arith);
      summed = subst (SumUp each []) (sym none) (λ number summary e. absurd (none-some summary e));
      kept = subst (AreFiguresOf gathering.figures) (sym (drop-nil (length gathering.summaries.items * each))) kept;
    }

module _ (each : ℕ) (notes : List Note) (run : Note) where
  abbrev all : List Note
  all = notes ++ run ∷ []

  all_long : length all ≡ length notes + 1
  all_long = length-append notes (run ∷ [])

  -- the runs of a setting that is through stay the same
  same_runs : (number count : ℕ) → number < count → count * each ≤ length notes → runs_of_setting each all number ≡ runs_of_setting each notes number
  same_runs number count lt through =
      let next : (number + 1) * each ≡ number * each + each = omega arith in
      let within : number * each + each ≤ length notes = omega (arith, next, through, mul-le (number + 1) each count each (omega (arith, lt)) (omega arith)) in
      let low : number * each ≤ length notes = omega (arith, within) in
      let left : each ≤ length (drop (number * each) notes) = omega (arith, within, length-drop (number * each) notes) in
      ap (take each) (drop-append-le (number * each) notes (run ∷ []) low)
      ∙ take-append-le each (drop (number * each) notes) (run ∷ []) left

  still_summed : (settings : List SettingSummary) → length settings * each ≤ length notes → SumUp each notes settings → SumUp each all settings
  still_summed settings through before_it number summary e =
      subst (IsSummaryOf summary) (sym (same_runs number (length settings) (slice_get_within settings number summary e) through)) (before_it number summary e)

  -- the runs of the setting that isn't through, with one more
  runs_more : (count : ℕ) → count * each ≤ length notes → drop (count * each) notes ++ run ∷ [] ≡ drop (count * each) all
  runs_more count through = sym (drop-append-le (count * each) notes (run ∷ []) through)

  module _ (old new : Gathering) (figures : SettingFigures) (were : IsGathered each notes old) (size : new.each ≡ old.each)
      (kept : AreFiguresOf figures (drop (length old.summaries.items * each) notes ++ run ∷ [])) where
    abbrev count : ℕ
    count = length old.summaries.items

    kept_more : AreFiguresOf figures (drop (count * each) all)
    kept_more = subst (AreFiguresOf figures) (runs_more count were.through) kept

    -- one run more of a setting that isn't through
    pub one_gathered : new.summaries.items ≡ old.summaries.items → new.figures ≡ figures → IsGathered each all new
    one_gathered same is =
        record {
          size = size ∙ were.size;
          through = subst (λ (l : List SettingSummary). length l * each ≤ length all) (sym same) (omega (arith, were.through, all_long));
          summed = subst (SumUp each all) (sym same) (still_summed old.summaries.items were.through were.summed);
          kept = subst (λ f. AreFiguresOf f (drop (length new.summaries.items * each) all)) (sym is)
              (subst (λ (l : List SettingSummary). AreFiguresOf figures (drop (length l * each) all)) (sym same) kept_more);
        }

    kept_long : runs_kept figures ≡ length all - count * each
    kept_long = kept_more.all ∙ length-drop (count * each) all

    -- the last run of a setting
    module _ (enough : old.each ≤ runs_kept figures) where
      just_through : length all ≡ (count + 1) * each
      just_through =
          let open_runs : runs_kept old.figures < old.each = old.unfinished in
          let before : runs_kept old.figures ≡ length notes - count * each =
          were.kept.all ∙ length-drop (count * each) notes in
          let next : (count + 1) * each ≡ count * each + each = omega arith in
          omega (arith, open_runs, before, next, enough, kept_long, all_long, were.size, were.through)

      last_setting : drop (count * each) all ≡ runs_of_setting each all count
      last_setting =
          let next : (count + 1) * each ≡ count * each + each = omega arith in
          let long : length (drop (count * each) all) ≤ each = omega (arith, length-drop (count * each) all, just_through, next) in
          sym (take_all each (drop (count * each) all) long)

      pub setting_gathered : (summary : SettingSummary) → new.summaries.items ≡ old.summaries.items ++ summary ∷ []
          → ((runs : List Note) → AreFiguresOf figures runs → IsSummaryOf summary runs) → AreFiguresOf new.figures [] → IsGathered each all new
      setting_gathered summary more sums fresh =
          let here : IsSummaryOf summary (runs_of_setting each all count) = subst (IsSummaryOf summary) last_setting (sums _ kept_more) in
          let counted : length new.summaries.items ≡ count + 1 = ap length more ∙ length-append old.summaries.items (summary ∷ []) in
          let before = still_summed old.summaries.items were.through were.summed in
          let none : [] ≡ drop ((count + 1) * each) all =
          sym (drop_all ((count + 1) * each) all (omega (arith, just_through))) in
          record {
            size = size ∙ were.size;
            through = subst (λ n. n * each ≤ length all) (sym counted) (omega (arith, just_through));
            summed = subst (SumUp each all) (sym more) (λ number one e.
                ⊎_elim (before number one)
                (λ p. subst (λ n. IsSummaryOf one (runs_of_setting each all n)) (sym p.0) (subst (λ t. IsSummaryOf t (runs_of_setting each all count)) p.1 here))
                (pushed old.summaries.items summary one number e));
            kept = subst (λ n. AreFiguresOf new.figures (drop (n * each) all)) (sym counted) (subst (AreFiguresOf new.figures) none fresh);
          }

-- where all runs were made, all settings are through
pub all_through : (sweep : Sweep) (notes : List Note) (gathering : Gathering) → length notes ≡ run_count sweep → IsGathered (seed_count sweep.seeds) notes gathering
    → length gathering.summaries.items ≡ setting_count sweep.swept_keys
all_through sweep notes gathering long gathered =
    let each = seed_count sweep.seeds in
    let count = length gathering.summaries.items in
    let open_runs : runs_kept gathering.figures < gathering.each = gathering.unfinished in
    let kept : runs_kept gathering.figures ≡ length notes - count * each =
    gathered.kept.all ∙ length-drop (count * each) notes in
    same_multiple count (setting_count sweep.swept_keys) each (omega (arith, gathered.through, long)) (omega (arith, open_runs, kept, gathered.size, gathered.through, long))
