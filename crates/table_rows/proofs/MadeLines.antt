-- The lines of runs that were made, and their settings.
use Rattle.std.proofs.Common.{◌≡◌, ◌∙◌, ◌<◌, ◌^◌, ◌==◌, ℕ, false, List, [], ◌∷◌, ◌++◌, map, decimal, lit<, arith, refl, sym, ap, subst, append_assoc}
use Rattle.std.specs.Prelude.{Option, Some, None, All}
use Rattle.std.specs.List.{AllZip, flat_map}
use Rattle.std.proofs.lemmas.List.Concat.{flat_map-append}
use Rattle.std.proofs.lemmas.List.Elements.{All-append, All-cons, All-head, All-map, All-nil, All-tail, All-weaker}
use Rattle.toml.specs.Data.{Data}
use Rattle.csv.specs.Writing.{default_writer, field_text}
use Rattle.sweep_plan.proofs.Words.{Lacks, decimal_lacks}
use Rattle.sweep_plan.specs.Sweep.{Sweep, seed_count}
use Rattle.sweep_plan.specs.Values.{value_text, FitsToml}
use Rattle.sweep_plan.specs.declared.choice.Choice.{Choice}
use Rattle.figures.specs.declared.column_set.ColumnSet.{ColumnSet}
use Rattle.figures.specs.Settings.{IsSummaryOf}
use Rattle.figures.specs.Figures.{figures_of}
use Rattle.figures.specs.Lines.{cell, cells_joined, figures_in_order, table_line}
use Rattle.figures.specs.Notes.{note_cell, note_text}
use Rattle.figures.specs.declared.summary.SettingSummary.{SettingSummary}
use Rattle.figures.proofs.SameFigures.{Small}
use Rattle.line_sums.specs.Sums.{checksum}
use Rattle.line_sums.proofs.Cuts.{sum_no_space}
use Rattle.sweep.specs.Runs.{Made, noted}
use Rattle.sweep.specs.Table.{made_line, noted_line, texts_of}
use Rattle.sweep_until.specs.Until.{AreEnough, IsMadeUntil, SumsUp, all_of}
use Rattle.table_rows.specs.Settings.{IsSetting, SumsUpLines, shard_setting}
use Rattle.table_rows.specs.Lines.{Line, IsLine, notes_of, shard_line}
use Rattle.table_rows.specs.Made.{FitsLine}
use Rattle.table_rows.proofs.Bytes.{field_lacks, lacks_joined}
use Rattle.sweep.proofs.Cells.{value_lacks}

cell_lacks : (f : Option ℕ) → Small f → Lacks 10 (cell f)
cell_lacks (Some n) small = let low : n < 2 ^ 63 = small n refl in decimal_lacks n 10 (omega (arith, low)) (lit< tt)
cell_lacks None small = All-nil (λ y. (y == 10) ≡ false)

module _ (columns : ColumnSet) (key : List ℕ) where
  -- the fields of a run's line
  abbrev fields_of : Made → List (List ℕ)
  fields_of m = texts_of m.setting ++ decimal m.scenario.seed ∷ map cell (figures_in_order columns (figures_of m.scenario m.rows))

  -- the line of a run
  abbrev pub line_from : Made → Line
  line_from m = record { sum = checksum key (note_cell (noted m) ++ made_line columns m); note = noted m; body = cells_joined (fields_of m) }

  abbrev pub setting_from : List Made → List Line
  setting_from made = map line_from made

  abbrev pub settings_from : List (List Made) → List (List Line)
  settings_from made = map setting_from made

  cells_lack : (m : Made) → FitsLine m → Lacks 10 (cells_joined (fields_of m))
  cells_lack m fits =
      let figs = figures_in_order columns (figures_of m.scenario m.rows) in
      let values : All (Lacks 10) (texts_of m.setting) =
      All-map (Lacks 10) (λ (c : Choice). value_text c.value) m.setting
      (All-weaker (λ (c : Choice). FitsToml c.value) (λ (c : Choice). Lacks 10 (value_text c.value)) (λ c fit. value_lacks 10 c.value fit (lit< tt)) m.setting fits.values) in
      let cells : All (Lacks 10) (map cell figs) = All-map (Lacks 10) cell figs (All-weaker Small (λ f. Lacks 10 (cell f)) cell_lacks figs (fits.figures columns)) in
      let seed : Lacks 10 (decimal m.scenario.seed) = decimal_lacks m.scenario.seed 10 (omega (arith, fits.seed)) (lit< tt) in
      let fields = All-append (Lacks 10) (texts_of m.setting) (decimal m.scenario.seed ∷ map cell figs) values (All-cons (Lacks 10) (decimal m.scenario.seed) (map cell figs) seed cells) in
      lacks_joined 10 44 (map (field_text default_writer) (fields_of m)) refl
      (All-map (Lacks 10) (field_text default_writer) (fields_of m) (All-weaker (Lacks 10) (λ xs. Lacks 10 (field_text default_writer xs)) field_lacks (fields_of m) fields))

  pub line_sound : (m : Made) → FitsLine m → IsLine (line_from m)
  line_sound m fits = record { spaceless = sum_no_space key (note_cell (noted m) ++ made_line columns m); small = fits.note; one = cells_lack m fits }

  cells_fed : (m : Made) → made_line columns m ≡ cells_joined (fields_of m) ++ 10 ∷ []
  unfolding table_line
  cells_fed m = refl

  pub line_in_shard : (m : Made) → shard_line (line_from m) ≡ noted_line columns key m
  line_in_shard m =
      ap (λ l. checksum key (note_cell (noted m) ++ made_line columns m) ++ 32 ∷ l)
      (ap (λ l. note_text (noted m) ++ 44 ∷ l) (sym (cells_fed m)) ∙ sym (append_assoc (note_text (noted m)) (44 ∷ []) (made_line columns m)))

  pub lines_sound : (made : List Made) → All FitsLine made → All IsLine (setting_from made)
  lines_sound [] fits = All-nil IsLine
  lines_sound (m ∷ made) fits = All-cons IsLine (line_from m) (setting_from made) (line_sound m (All-head FitsLine m made fits)) (lines_sound made (All-tail FitsLine m made fits))

  pub setting_in_shard : (made : List Made) → shard_setting (setting_from made) ≡ flat_map (noted_line columns key) made
  setting_in_shard [] = refl
  setting_in_shard (m ∷ made) = (λ i. line_in_shard m i ++ setting_in_shard made i)

  pub setting_noted : (made : List Made) → notes_of (setting_from made) ≡ map noted made
  setting_noted [] = refl
  setting_noted (m ∷ made) = ap (λ l. noted m ∷ l) (setting_noted made)

  pub settings_in_shard : (made : List (List Made)) → flat_map shard_setting (settings_from made) ≡ flat_map (noted_line columns key) (all_of made)
  settings_in_shard [] = refl
  settings_in_shard (setting ∷ made) =
      (λ i. setting_in_shard setting i ++ settings_in_shard made i) ∙ sym (flat_map-append (noted_line columns key) setting (all_of made))

  pub settings_sound : (tree : Data) (sweep : Sweep) (width : ℕ) (numbers : List ℕ) (made : List (List Made)) → AllZip (IsMadeUntil tree sweep width) numbers made → All (All FitsLine) made
      → All (IsSetting width (seed_count sweep.seeds)) (settings_from made)
  settings_sound tree sweep width [] [] are fits = All-nil (IsSetting width (seed_count sweep.seeds))
  settings_sound tree sweep width [] (setting ∷ made) are fits = absurd are
  settings_sound tree sweep width (number ∷ numbers) [] are fits = absurd are
  settings_sound tree sweep width (number ∷ numbers) (setting ∷ made) are fits =
      All-cons (IsSetting width (seed_count sweep.seeds)) (setting_from setting) (settings_from made)
      (record {
        sound = lines_sound setting (All-head (All FitsLine) setting made fits);
        enough = subst (AreEnough width (seed_count sweep.seeds)) (sym (setting_noted setting)) are.0.enough;
      })
      (settings_sound tree sweep width numbers made are.1 (All-tail (All FitsLine) setting made fits))

  pub sums_so : (made : List (List Made)) (settings : List SettingSummary) → AllZip SumsUpLines (settings_from made) settings → AllZip SumsUp made settings
  sums_so [] [] sums = tt
  sums_so [] (c ∷ settings) sums = absurd sums
  sums_so (setting ∷ made) [] sums = absurd sums
  sums_so (setting ∷ made) (c ∷ settings) sums = (subst (λ notes. IsSummaryOf c notes) (setting_noted setting) sums.0, sums_so made settings sums.1)
