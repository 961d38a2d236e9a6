-- The cells of the values of a setting, in the line of a run.
use Rattle.std.proofs.Common.{◌≡◌, ◌∙◌, ◌<◌, ◌==◌, ℕ, Bool, true, false, List, [], ◌∷◌, ◌++◌, map, decimal, lit<, arith, refl, sym, ap, subst, append_assoc, append-nil, is_some, true≢false}
use Rattle.std.specs.Prelude.{All, IfSome, IsNone, Option, Some, None}
use Rattle.std.specs.Option.{ForSome}
use Rattle.std.specs.List.{AllByRecursion}
use Rattle.std.specs.Str.{IsUtf8}
use Rattle.std.proofs.lemmas.Bool.Decides.{nat_tests}
use Rattle.std.proofs.lemmas.List.{append_cancel_left}
use Rattle.std.proofs.lemmas.List.Elements.{All-from_recursion, All-head, All-tail}
use Rattle.std.proofs.lemmas.Option.{same_Some}
use Rattle.std.proofs.lemmas.Str.{IsUtf8-from_ascii}
use Rattle.sweep_plan.specs.Sweep.{Sweep}
use Rattle.sweep_plan.specs.Values.{value_text, FitsToml}
use Rattle.sweep_plan.specs.declared.choice.Choice.{Choice}
use Rattle.sweep_plan.specs.declared.values.SweptValue.{SweptValue}
use Rattle.sweep_plan.specs.declared.values.SweptValue.TheVariants.{Whole, Switch}
use Rattle.sweep_plan.proofs.Words.{Lacks, cut_once, decimal_lacks}
use Rattle.line_sums.specs.Sums.{IsCut}
use Rattle.line_sums.proofs.Cuts.{cut_one, not_cut}
use Rattle.figures.specs.declared.column_set.ColumnSet.{ColumnSet}
use Rattle.figures.specs.Cells.{AreCellsOf}
use Rattle.figures.specs.Lines.{cell, cells_joined, figures_in_order, run_line, table_line}
use Rattle.figures.specs.Notes.{IsNoteWord, Note, note_text}
use Rattle.figures.specs.declared.run.RunFigures.{RunFigures}
use Rattle.figures.proofs.SameNotes.{note_ascii, note_lacks, same_note}
use Rattle.figures.proofs.Told.{plain_field}
use Rattle.sweep.specs.Runs.{IsRunAt, Planned, planned_as}
use Rattle.sweep.specs.Sums.{IsOlder, IsPlaced, IsBehindMetadata, known_seed, value_cells}
use Rattle.sweep.specs.Table.{texts_of}
use Rattle.sweep.specs.declared.summing.LineKey.{LineKey}

pub value_lacks : (c : ℕ) (v : SweptValue) → FitsToml v → c < 48 → Lacks c (value_text v)
value_lacks c (Whole n) low small = decimal_lacks n c (omega (arith, low)) small
value_lacks c (Switch true) low small = letters c (116 ∷ 114 ∷ 117 ∷ 101 ∷ []) (above c 116 small (lit< tt), (above c 114 small (lit< tt), (above c 117 small (lit< tt), (above c 101 small (lit< tt), tt))))
  where
    above : (c x : ℕ) → c < 48 → 48 < x → (x == c) ≡ false
    above c x small large = grind (arith, nat_tests)

    letters : (c : ℕ) (xs : List ℕ) → AllByRecursion (λ x. (x == c) ≡ false) xs → Lacks c xs
    letters c xs all = All-from_recursion (λ x. (x == c) ≡ false) xs all
value_lacks c (Switch false) low small = letters c (102 ∷ 97 ∷ 108 ∷ 115 ∷ 101 ∷ []) (above c 102 small (lit< tt), (above c 97 small (lit< tt), (above c 108 small (lit< tt), (above c 115 small (lit< tt), (above c 101 small (lit< tt), tt)))))
  where
    above : (c x : ℕ) → c < 48 → 48 < x → (x == c) ≡ false
    above c x small large = grind (arith, nat_tests)

    letters : (c : ℕ) (xs : List ℕ) → AllByRecursion (λ x. (x == c) ≡ false) xs → Lacks c xs
    letters c xs all = All-from_recursion (λ x. (x == c) ≡ false) xs all

-- ---- a line begins with the cells of its values

cells_lead : (setting : List Choice) (x : List ℕ) (xs : List (List ℕ)) → All (λ (c : Choice). FitsToml c.value) setting → cells_joined (texts_of setting ++ x ∷ xs) ≡ value_cells setting ++ cells_joined (x ∷ xs)
cells_lead [] x xs fit = refl
cells_lead (c ∷ []) x xs fit =
    let own = All-head (λ (c : Choice). FitsToml c.value) c [] fit in
    let plain = plain_field (value_text c.value) (value_lacks 44 c.value own (lit< tt)) (value_lacks 34 c.value own (lit< tt)) (value_lacks 13 c.value own (lit< tt)) (value_lacks 10 c.value own (lit< tt)) in
    ap (λ l. l ++ 44 ∷ cells_joined (x ∷ xs)) plain
    ∙ sym (append_assoc (value_text c.value) (44 ∷ []) (cells_joined (x ∷ xs))) ∙ ap (λ l. l ++ cells_joined (x ∷ xs)) (sym (append-nil (value_text c.value ++ 44 ∷ [])))
cells_lead (c ∷ next ∷ setting) x xs fit =
    let rest = cells_lead (next ∷ setting) x xs (All-tail (λ (c : Choice). FitsToml c.value) c (next ∷ setting) fit) in
    let own = All-head (λ (c : Choice). FitsToml c.value) c (next ∷ setting) fit in
    let plain = plain_field (value_text c.value) (value_lacks 44 c.value own (lit< tt)) (value_lacks 34 c.value own (lit< tt)) (value_lacks 13 c.value own (lit< tt)) (value_lacks 10 c.value own (lit< tt)) in
    (λ i. plain i ++ 44 ∷ rest i)
    ∙ sym (append_assoc (value_text c.value) (44 ∷ []) (value_cells (next ∷ setting) ++ cells_joined (x ∷ xs)))
    ∙ sym (append_assoc (value_text c.value ++ 44 ∷ []) (value_cells (next ∷ setting)) (cells_joined (x ∷ xs)))

pub line_lead : (columns : ColumnSet) (setting : List Choice) (seed : ℕ) (run : RunFigures) → All (λ (c : Choice). FitsToml c.value) setting
    → run_line columns (texts_of setting) seed run ≡ value_cells setting ++ run_line columns [] seed run
unfolding table_line
line_lead columns setting seed run fit =
    let cells : List (List ℕ) = map cell (figures_in_order columns run) in
    ap (λ l. l ++ 10 ∷ []) (cells_lead setting (decimal seed) cells fit) ∙ append_assoc (value_cells setting) (cells_joined (decimal seed ∷ cells)) (10 ∷ [])

-- ---- what a line has behind its metadata

module _ (key : LineKey) (sweep : Sweep) (number : ℕ) (note : Note) (behind : List ℕ) (setting : List Choice) (asked : Option ℕ) (there : IsRunAt sweep number (planned_as setting asked))
    (fit : All (λ (c : Choice). FitsToml c.value) setting) (seed : Option ℕ) (known : seed ≡ known_seed asked key.own) (values : List ℕ) (laid : values ≡ value_cells setting) where
  same_run : (its : IsBehindMetadata key sweep number note behind) → its.planned ≡ planned_as setting asked
  same_run its = same_Some its.planned (planned_as setting asked) (sym its.there ∙ there)

  -- the cells of the line behind its values
  pub cells_laid : (its : IsBehindMetadata key sweep number note behind) → behind ≡ values ++ run_line key.columns [] its.seed its.run
  cells_laid its =
      its.written ∙ ap (λ p. run_line key.columns (texts_of p.setting) its.seed its.run) (same_run its) ∙ line_lead key.columns setting its.seed its.run fit
      ∙ ap (λ l. l ++ run_line key.columns [] its.seed its.run) (sym laid)

  pub other_values : ((rest : List ℕ) → ¬ (behind ≡ values ++ rest)) → ¬ (IsBehindMetadata key sweep number note behind)
  other_values none its = none (run_line key.columns [] its.seed its.run) (cells_laid its)

  module _ (cells : List ℕ) (split : behind ≡ values ++ cells) where
    pub is_behind : AreCellsOf key.columns seed note cells → IsBehindMetadata key sweep number note behind
    is_behind are = record {
      planned = planned_as setting asked;
      there = there;
      seed = are.seed;
      seeded = subst (λ k. ForSome k (λ n. are.seed ≡ n)) known are.seeded;
      run = are.run;
      agrees = are.agrees;
      small = are.small;
      written = split ∙ (λ i. laid i ++ are.written i) ∙ sym (line_lead key.columns setting are.seed are.run fit);
    }

    pub no_cells : ¬ (AreCellsOf key.columns seed note cells) → ¬ (IsBehindMetadata key sweep number note behind)
    no_cells none its = none (record {
      seed = its.seed;
      seeded = subst (λ k. ForSome k (λ n. its.seed ≡ n)) (ap (λ (p : Planned). known_seed p.seed key.own) (same_run its) ∙ sym known) its.seeded;
      run = its.run;
      agrees = its.agrees;
      small = its.small;
      written = append_cancel_left values cells (run_line key.columns [] its.seed its.run) (sym split ∙ cells_laid its);
    })

-- ---- the metadata of a line

pub word_utf8 : (word : List ℕ) (note : Note) → IsNoteWord word note → IsUtf8 word
word_utf8 word note says = subst IsUtf8 says.written (IsUtf8-from_ascii (note_text note) (note_ascii note says.small))

module _ (key : LineKey) (sweep : Sweep) (number : ℕ) (line : List ℕ) where
  pub no_comma : Lacks 44 line → ¬ (IsPlaced key sweep number line)
  no_comma lacks placed = not_cut 44 line (note_text placed.note) placed.behind lacks (placed.written ∙ append_assoc (note_text placed.note) (44 ∷ []) placed.behind)

  module _ (word behind : List ℕ) (cut : IsCut 44 line word behind) where
    parts : (placed : IsPlaced key sweep number line) → (note_text placed.note ≡ word) × (placed.behind ≡ behind)
    parts placed =
        cut_once 44 (note_text placed.note) word placed.behind behind (note_lacks 44 (lit< tt) refl placed.note placed.small) cut.lacks
        (sym (append_assoc (note_text placed.note) (44 ∷ []) placed.behind) ∙ sym placed.written ∙ cut.written)

    pub no_metadata : ((note : Note) → ¬ (IsNoteWord word note)) → ¬ (IsPlaced key sweep number line)
    no_metadata none placed = none placed.note (record { written = (parts placed).0; small = placed.small })

    module _ (note : Note) (says : IsNoteWord word note) where
      pub placed_so : IsBehindMetadata key sweep number note behind → IsPlaced key sweep number line
      placed_so its = record {
        note = note;
        small = says.small;
        behind = behind;
        cells = its;
        written = cut.written ∙ ap (λ w. w ++ 44 ∷ behind) (sym says.written) ∙ sym (append_assoc (note_text note) (44 ∷ []) behind);
      }

      pub not_so : ¬ (IsBehindMetadata key sweep number note behind) → ¬ (IsPlaced key sweep number line)
      not_so none placed =
          let same : placed.note ≡ note = same_note placed.note note placed.small says.small ((parts placed).0 ∙ sym says.written) in
          none (subst (λ n. IsBehindMetadata key sweep number n behind) same (subst (IsBehindMetadata key sweep number placed.note) (parts placed).1 placed.cells))

-- ---- lines without checksums

module _ (text word behind : List ℕ) (cut : IsCut 44 text word behind) where
  pub older_so : (note : Note) → IsNoteWord word note → note.incidents ≡ None → IsOlder text
  older_so note says first = record { word = word; behind = behind; cut = cut; note = note; says = says; first = first }

  word_so : (older : IsOlder text) → IsNoteWord word older.note
  word_so older =
      let same = cut_one 44 older.word word older.behind behind older.cut.lacks cut.lacks (sym older.cut.written ∙ cut.written) in
      subst (λ w. IsNoteWord w older.note) same.0 older.says

  pub not_older : ((note : Note) → ¬ (IsNoteWord word note)) → ¬ (IsOlder text)
  not_older none older = none older.note (word_so older)

  -- it says a note with incidents, and no other
  pub not_first : (note : Note) → IsNoteWord word note → ¬ (note.incidents ≡ None) → ¬ (IsOlder text)
  not_first note says later older =
      let so = word_so older in
      let same : older.note ≡ note = same_note older.note note so.small says.small (so.written ∙ sym says.written) in
      later (ap (λ n. n.incidents) (sym same) ∙ older.first)
