-- How the text of settings grows, and how wide its columns are.
use Rattle.std.proofs.Common.{◌≡◌, ℕ, suc, ◌+◌, ◌<◌, List, [], ◌∷◌, ◌++◌, Some, sym, ap, subst, ◌∙◌, arith, max, take, drop, get_or, length, map, append-nil, append_assoc}
use Rattle.std.specs.Prelude.{slice_get}
use Rattle.std.proofs.Math.Seq.{drop-cons}
use Rattle.std.proofs.lemmas.List.{take_more, length-take-le, drop_all}
use Rattle.std.proofs.lemmas.Option.{get_or_from_slice_get, slice_get_within}
use Rattle.sweep_plan.specs.Sweep.{KeyValues}
use Rattle.sweep_plan.specs.Settings.{settings_of}
use Rattle.sweep_plan.proofs.Choices.{settings_long}
use Rattle.sweep_plan.specs.Values.{value_text}
use Rattle.sweep_plan.specs.declared.choice.Choice.{Choice}
use Rattle.sweep_plan.specs.declared.values.SweptValue.{SweptValue}
use Rattle.figures.specs.declared.column_set.ColumnSet.{ColumnSet}
use Rattle.figures.specs.declared.summary.SettingSummary.{SettingSummary}
use Rattle.sweep.specs.Texts.{longest, lines_of_settings, marked_line}
use Rattle.sweep.proofs.Steps.{taken_more}

-- ---- lines

module _ (columns : ColumnSet) (widths : List ℕ) (all : List SettingSummary) where
  lines_more : (settings : List (List Choice)) (summaries : List SettingSummary) (chosen : List Choice) (summary : SettingSummary) → length settings ≡ length summaries
      → lines_of_settings columns widths all (settings ++ chosen ∷ []) (summaries ++ summary ∷ []) ≡ lines_of_settings columns widths all settings summaries ++ marked_line columns widths all chosen summary
  lines_more [] [] chosen summary same = append-nil (marked_line columns widths all chosen summary)
  lines_more [] (t ∷ summaries) chosen summary same = absurd (omega (arith, same))
  lines_more (a ∷ settings) [] chosen summary same = absurd (omega (arith, same))
  lines_more (a ∷ settings) (t ∷ summaries) chosen summary same =
      ap (λ l. marked_line columns widths all a t ++ l) (lines_more settings summaries chosen summary (omega (arith, same)))
      ∙ sym (append_assoc (marked_line columns widths all a t) (lines_of_settings columns widths all settings summaries) (marked_line columns widths all chosen summary))

  -- one line more
  pub line_added : (used : List ℕ) (settings : List (List Choice)) (summaries : List SettingSummary) (place : ℕ) (chosen : List Choice) (d : SettingSummary) (before text after : List ℕ)
      → used ≡ widths → length settings ≡ length summaries → slice_get settings place ≡ Some chosen
      → text ≡ before ++ lines_of_settings columns widths all (take place settings) (take place summaries) → after ≡ text ++ marked_line columns used all chosen (get_or summaries place d)
      → after ≡ before ++ lines_of_settings columns widths all (take (place + 1) settings) (take (place + 1) summaries)
  line_added used settings summaries place chosen d before text after wide same there so is =
      let cs = take place settings in
      let ts = take place summaries in
      let summary = get_or summaries place d in
      let lt : place < length settings = slice_get_within settings place chosen there in
      let long_c : length cs ≡ place = length-take-le place settings (omega (arith, lt)) in
      let long_t : length ts ≡ place = length-take-le place summaries (omega (arith, same, lt)) in
      is ∙ ap (λ (w : List ℕ). text ++ marked_line columns w all chosen summary) wide ∙ ap (λ l. l ++ marked_line columns widths all chosen summary) so
      ∙ append_assoc before (lines_of_settings columns widths all cs ts) (marked_line columns widths all chosen summary)
      ∙ ap (λ l. before ++ l) (sym (lines_more cs ts chosen summary (long_c ∙ sym long_t)))
      ∙ ap (λ l. before ++ lines_of_settings columns widths all l (ts ++ summary ∷ [])) (sym (taken_more settings place chosen there))
      ∙ ap (λ l. before ++ lines_of_settings columns widths all (take (place + 1) settings) l) (sym (take_more summaries place d (omega (arith, same, lt))))

-- ---- a setting has a value for each key

pub setting_long : (swept_keys : List KeyValues) (place : ℕ) (chosen : List Choice) → slice_get (settings_of swept_keys) place ≡ Some chosen → length chosen ≡ length swept_keys
setting_long swept_keys place chosen there =
    let settings = settings_of swept_keys in
    subst (λ (l : List Choice). length l ≡ length swept_keys) (get_or_from_slice_get settings place chosen chosen there)
    (settings_long 0 swept_keys place chosen (slice_get_within settings place chosen there))

-- ---- widths

-- one value more was looked at
pub wider : (values : List SweptValue) (place : ℕ) (value : SweptValue) (width after target : ℕ) (text : List ℕ) → place < length values → value ≡ get_or values place value
    → text ≡ value_text value → after ≡ max width (length text) → max width (longest (map value_text (drop place values))) ≡ target
    → max after (longest (map value_text (drop (place + 1) values))) ≡ target
wider values place value width after target text lt at is more so =
    let rest = longest (map value_text (drop (place + 1) values)) in
    let next : suc place ≡ place + 1 = omega arith in
    let split : drop place values ≡ value ∷ drop (place + 1) values =
    drop-cons values place value lt ∙ ap (λ v. v ∷ drop (suc place) values) (sym at) ∙ ap (λ n. value ∷ drop n values) next in
    let whole : longest (map value_text (drop place values)) ≡ max (length (value_text value)) rest = ap (λ (l : List SweptValue). longest (map value_text l)) split in
    omega (arith, so, whole, more, ap length is)

-- all were
pub widest : (values : List SweptValue) (place width target : ℕ) → length values < place + 1 → max width (longest (map value_text (drop place values))) ≡ target → width ≡ target
widest values place width target past so =
    let none : longest (map value_text (drop place values)) ≡ 0 = ap (λ (l : List SweptValue). longest (map value_text l)) (drop_all place values (omega (arith, past))) in
    omega (arith, none, so)
