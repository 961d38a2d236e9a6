-- The first runs of a setting that was made, and others behind them, are that setting.
use Rattle.std.proofs.Common.{◌≡◌, ◌∙◌, ◌<◌, ◌≤◌, ◌+◌, ◌-◌, ◌*◌, ◌⊎◌, ℕ, Bool, true, false, true≢false, List, ◌++◌, length, length-append, map, take, drop, inl, inr, ltb, refl, sym, ap, subst, arith}
use Rattle.std.specs.Prelude.{All}
use Rattle.std.specs.List.{AllZip}
use Rattle.std.proofs.lemmas.Bool.{ltb-true, ltb-false}
use Rattle.std.proofs.lemmas.List.{drop-drop, length-map, length-take, map-append, take-take, take_at}
use Rattle.std.proofs.Math.Seq.{take-add}
use Rattle.toml.specs.Data.{Data}
use Rattle.sweep_plan.specs.Sweep.{Sweep, seed_count}
use Rattle.figures.specs.Notes.{Note}
use Rattle.sweep.specs.Runs.{AreMadeBetween, IsMadeAs, Made, noted, runs_of}
use Rattle.sweep_until.specs.Until.{AreEnough, AreTooFew, IsMadeBehind, IsMadeUntil, is_narrow_of}
use Rattle.sweep_until.proofs.Same.{zip_taken}
use Rattle.table_rows.specs.Lines.{Line, IsLine, notes_of, shard_line}
use Rattle.table_rows.specs.Settings.{shard_setting}
use Rattle.table_rows.proofs.Items.{cut_items}
use Rattle.table_rows.proofs.OneLine.{same_line}
use Rattle.table_rows.proofs.Read.{zipped_both}

module _ (tree : Data) (sweep : Sweep) where
  -- the first runs from a number on
  first_between : (from number n : ℕ) (made : List Made) → n ≤ number - from → AreMadeBetween tree sweep from number made → AreMadeBetween tree sweep from (from + n) (take n made)
  first_between from number n made few are =
      let left = drop from (runs_of sweep) in
      let count : n ≡ from + n - from = omega arith in
      subst (λ k. AllZip (IsMadeAs tree) (take k left) (take n made)) count
      (subst (λ l. AllZip (IsMadeAs tree) l (take n made)) (take-take n (number - from) left few) (zip_taken (IsMadeAs tree) n (take (number - from) left) made are))

  -- and those behind them
  both_between : (from mid till : ℕ) (made more : List Made) → from ≤ mid → mid ≤ till → AreMadeBetween tree sweep from mid made → AreMadeBetween tree sweep mid till more
      → AreMadeBetween tree sweep from till (made ++ more)
  both_between from mid till made more low high are also =
      let all = runs_of sweep in
      let sum : (mid - from) + (till - mid) ≡ till - from = omega (arith, low, high) in
      let place : from + (mid - from) ≡ mid = omega (arith, low) in
      let behind : drop (mid - from) (drop from all) ≡ drop mid all = drop-drop (mid - from) from all ∙ ap (λ n. drop n all) place in
      let whole : take (till - from) (drop from all) ≡ take (mid - from) (drop from all) ++ take (till - mid) (drop mid all) =
      ap (λ n. take n (drop from all)) (sym sum) ∙ take-add (mid - from) (till - mid) (drop from all) ∙ ap (λ l. take (mid - from) (drop from all) ++ take (till - mid) l) behind in
      subst (λ l. AllZip (IsMadeAs tree) l (made ++ more)) (sym whole)
      (zipped_both (IsMadeAs tree) (take (mid - from) (drop from all)) (take (till - mid) (drop mid all)) made more are also)

  pub setting_again : (width number : ℕ) (before : List Note) (made more : List Made) → length before ≤ length made → map noted (take (length before) made) ≡ before
      → IsMadeUntil tree sweep width number made → IsMadeBehind tree sweep width number before more → IsMadeUntil tree sweep width number (take (length before) made ++ more)
  setting_again width number before made more few same is behind =
      let each = seed_count sweep.seeds in
      let k = length before in
      let from = number * each + 0 in
      let size : length (take k made) ≡ k = length-take k made ∙ omega (arith, few) in
      let all : length (take k made ++ more) ≡ k + length more = length-append (take k made) more ∙ ap (λ n. n + length more) size in
      let mid : from + k ≡ number * each + k = omega arith in
      let till : number * each + k + length more ≡ from + length (take k made ++ more) = omega (arith, all) in
      let first = subst (λ n. AreMadeBetween tree sweep from n (take k made)) mid (first_between from (from + length made) k made (omega (arith, few)) is.are) in
      record {
        are = subst (λ n. AreMadeBetween tree sweep from n (take k made ++ more)) till
            (both_between from (number * each + k) (number * each + k + length more) (take k made) more (omega arith) (omega arith) first behind.are);
        enough = subst (AreEnough width each) (ap (λ l. l ++ map noted more) (sym same) ∙ sym (map-append noted (take k made) more)) behind.enough;
      }

-- ---- lines that are too few for a setting begin its lines

noted_both : (xs ys : List Line) → notes_of (xs ++ ys) ≡ notes_of xs ++ notes_of ys
noted_both xs ys = map-append (λ (l : Line). l.note) xs ys

noted_long : (lines : List Line) → length (notes_of lines) ≡ length lines
noted_long lines = length-map lines (λ (l : Line). l.note)

module _ (width each : ℕ) (lines whole : List Line) (few : AreTooFew width each (notes_of lines)) (enough : AreEnough width each (notes_of whole)) where
  -- they don't go on behind it
  no_longer : (tail : List Line) → lines ≡ whole ++ tail → length whole < length lines → ⊥
  no_longer tail is long = by enough.ends
    where
      parts : notes_of lines ≡ notes_of whole ++ notes_of tail
      parts = ap notes_of is ∙ noted_both whole tail

      by : (is_narrow_of width (notes_of whole) ≡ true) ⊎ (length (notes_of whole) ≡ each) → ⊥
      by (inr all) = omega (arith, all, few.few, long, noted_long whole, noted_long lines)
      by (inl narrow) =
          let n = length (notes_of whole) in
          let front : take n (notes_of lines) ≡ notes_of whole = ap (take n) parts ∙ take_at (notes_of whole) (notes_of tail) n refl in
          true≢false (sym narrow ∙ ap (is_narrow_of width) (sym front) ∙ few.wide n (omega (arith, long, noted_long whole, noted_long lines)))

  pub begin_setting : (x y : List ℕ) → All IsLine lines → All IsLine whole → shard_setting lines ++ x ≡ shard_setting whole ++ y → (tail : List Line) × (whole ≡ lines ++ tail)
  begin_setting x y sound also same = by (ltb (length whole) (length lines)) refl
    where
      by : (b : Bool) → ltb (length whole) (length lines) ≡ b → (tail : List Line) × (whole ≡ lines ++ tail)
      by true is =
          let long = ltb-true (length whole) (length lines) is in
          let cut = cut_items IsLine shard_line same_line whole lines y x also sound (sym same) (omega (arith, long)) in
          absurd (no_longer cut.0 cut.1 long)
      by false is =
          let short = ltb-false (length whole) (length lines) is in
          let cut = cut_items IsLine shard_line same_line lines whole x y sound also same (omega (arith, short)) in
          (cut.0, cut.1)
