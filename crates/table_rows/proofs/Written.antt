-- A line that is written of a run is the line of that run.
use Rattle.std.proofs.Common.{◌≡◌, ◌∙◌, ◌<◌, ◌^◌, ℕ, List, [], ◌∷◌, ◌++◌, fold, lit<, refl, sym, ap, subst, append_assoc, append-nil}
use Rattle.std.specs.Prelude.{Option, Some, None, Ok, pos}
use Rattle.std.specs.Option.{ForSome, option_map_or}
use Rattle.std.proofs.lemmas.Option.{same_Some}
use Rattle.std.proofs.lemmas.List.Elements.{All-cons}
use Rattle.toml.specs.Data.{Data, Members, integer, table}
use Rattle.schema.specs.Schema.{spelling_of}
use Rattle.schema.specs.Tree.{value_at}
use Rattle.schema.specs.Values.{default_of, number_at, whole_or}
use Rattle.schema.specs.declared.schema.Section.TheVariants as section
use Rattle.schema.specs.declared.schema.FormatKey.{FormatKey}
use Rattle.schema.specs.declared.schema.FormatKey.TheVariants as key
use Rattle.scenario.specs.Setup.{Setup}
use Rattle.text_reader.specs.Answers.{AnswersDocument}
use Rattle.text_reader.proofs.Sound.{seed_answer}
use Rattle.sweep_plan.specs.Document.{put, table_at, with_choice, with_entry, with_items, with_key, with_value_in, with_values}
use Rattle.sweep_plan.specs.Sweep.{Sweep}
use Rattle.sweep_plan.specs.declared.choice.Choice.{Choice}
use Rattle.sweep_plan.specs.SetKeys.{key_spelling}
use Rattle.sweep_plan.specs.declared.items.ItemName.{ItemName}
use Rattle.sweep_plan.specs.declared.set_keys.SetKey.{SetKey}
use Rattle.sweep_plan.proofs.Puts.{get_here}
use Rattle.figures.specs.declared.column_set.ColumnSet.{ColumnSet}
use Rattle.figures.specs.Figures.{figures_of}
use Rattle.figures.specs.Lines.{figures_in_order, run_line}
use Rattle.figures.proofs.SameFigures.{Small}
use Rattle.figures.proofs.Told.{made_agrees}
use Rattle.figures.specs.Notes.{note_cell, note_text}
use Rattle.line_sums.proofs.Cuts.{sum_no_feed}
use Rattle.sweep_plan.specs.Items.{item_text}
use Rattle.sweep.specs.Runs.{IsMadeAs, IsRunAt, Made, Planned, noted}
use Rattle.sweep.specs.Sums.{AreLinesOf, IsFed, IsLineOf, IsPlaced, IsBehindMetadata, known_seed}
use Rattle.sweep.specs.declared.summing.LineKey.{LineKey}
use Rattle.sweep.specs.Table.{made_line, noted_line, texts_of}
use Rattle.table_rows.specs.Made.{FitsLine}
use Rattle.table_rows.specs.Open.{HasRowOf}
use Rattle.table_rows.proofs.Bytes.{lacks_both, lacks_cons}
use Rattle.figures.proofs.SameNotes.{note_lacks}
use Rattle.table_rows.proofs.MadeLines.{line_from, line_in_shard, line_sound}

-- ---- the seed of a run is that of its document

with_value_table : (t : Option FormatKey) (item : Option ItemName) (k : SetKey) (d : Data) (ms : Members) → (ns : Members) × (with_value_in t item k d (table ms) ≡ table ns)
with_value_table None item k d ms = (put (key_spelling k) d ms, refl)
with_value_table (Some t) None k d ms = (put (spelling_of t) (with_key k d (table_at t (table ms))) ms, refl)
with_value_table (Some t) (Some item) k d ms = by (value_at t (table ms))
  where
    by : (found : Option Data) → (ns : Members) × (option_map_or (λ list. with_entry t (with_items (item_text item) k d list) (table ms)) found (table ms) ≡ table ns)
    by None = (ms, refl)
    by (Some list) = (put (spelling_of t) (with_items (item_text item) k d list) ms, refl)

with_choices_table : (setting : List Choice) (tree : Data) (ms : Members) → tree ≡ table ms → (ns : Members) × (fold with_choice tree setting ≡ table ns)
with_choices_table [] tree ms is = (ms, is)
with_choices_table (c ∷ setting) tree ms is =
    let one = with_value_table c.key.table c.key.item c.key.key _ ms in
    with_choices_table setting (with_choice tree c) one.0 (ap (λ t. with_choice t c) is ∙ one.1)

seed_read : (seed : ℕ) (ns : Members) → number_at section.Top key.Seed (Some (with_entry key.Seed (integer (pos seed)) (table ns))) ≡ seed
unfolding number_at
seed_read seed ns = ap (λ (found : Option Data). whole_or (default_of section.Top key.Seed) found) (get_here (spelling_of key.Seed) (integer (pos seed)) ns)

seed_of : (tree : Data) (setting : List Choice) (seed : ℕ) (m : Setup) (ms : Members) → tree ≡ table ms → AnswersDocument (with_values tree setting (Some seed)) (Ok m) → m.seed ≡ seed
unfolding with_values
seed_of tree setting seed m ms is answered =
    let inner = with_choices_table setting tree ms is in
    seed_answer (with_values tree setting (Some seed)) m answered ∙ ap (λ (t : Data). number_at section.Top key.Seed (Some (with_entry key.Seed (integer (pos seed)) t))) inner.1
    ∙ seed_read seed inner.0

module _ (key : LineKey) (members : Members) (sweep : Sweep) (number : ℕ) (p : Planned) (m : Made) (there : IsRunAt sweep number p) (is : IsMadeAs (table members) p m) (fits : FitsLine m)
    (own : p.seed ≡ None → ForSome key.own (λ s. m.scenario.seed ≡ s)) where
  abbrev columns : ColumnSet
  columns = key.columns

  -- its seed is the one that is known
  seeded : ForSome (known_seed p.seed key.own) (λ k. m.scenario.seed ≡ k)
  seeded = by p.seed refl
    where
      by : (asked : Option ℕ) → p.seed ≡ asked → ForSome (known_seed asked key.own) (λ k. m.scenario.seed ≡ k)
      by None none = own none
      by (Some seed) some =
          let same : m.scenario.seed ≡ seed =
          seed_of (table members) p.setting seed m.scenario members refl (subst (λ s. AnswersDocument (with_values (table members) p.setting s) (Ok m.scenario)) some is.accepted) in
          λ k one. same ∙ same_Some seed k one

  -- what stands behind its metadata
  its_cells : IsBehindMetadata key sweep number (noted m) (made_line columns m)
  its_cells = record {
    planned = p;
    there = there;
    seed = m.scenario.seed;
    seeded = seeded;
    run = figures_of m.scenario m.rows;
    agrees = made_agrees m.scenario m.tick m.rows;
    small = All-cons Small (Some m.scenario.seed) (figures_in_order columns (figures_of m.scenario m.rows)) (λ n one. subst (λ k. k < 2 ^ 63) (same_Some m.scenario.seed n one) fits.seed) (fits.figures columns);
    written = ap (λ chosen. run_line columns (texts_of chosen) m.scenario.seed (figures_of m.scenario m.rows)) is.same;
  }

  placed : IsPlaced key sweep number (note_cell (noted m) ++ made_line columns m)
  placed = record { note = noted m; small = fits.note; behind = made_line columns m; cells = its_cells; written = refl }

  -- it has one line feed
  fed : IsFed (noted_line columns key.digest m)
  fed =
      let l = line_from columns key.digest m in
      let rest = note_text l.note ++ 44 ∷ l.body in
      record {
        body = l.sum ++ 32 ∷ rest;
        one = lacks_both 10 l.sum (32 ∷ rest) (sum_no_feed key.digest (note_cell (noted m) ++ made_line columns m))
            (lacks_cons 10 32 rest refl
            (lacks_both 10 (note_text l.note) (44 ∷ l.body) (note_lacks 10 (lit< tt) refl l.note fits.note) (lacks_cons 10 44 l.body refl (line_sound columns key.digest m fits).one)));
        fed = sym (line_in_shard columns key.digest m)
            ∙ ap (λ x. l.sum ++ 32 ∷ x) (sym (append_assoc (note_text l.note) (44 ∷ l.body) (10 ∷ [])))
            ∙ sym (append_assoc l.sum (32 ∷ rest) (10 ∷ []));
      }

  pub line_written : IsLineOf key sweep number (noted_line columns key.digest m)
  line_written = record { fed = fed; rest = note_cell (noted m) ++ made_line columns m; sum = refl; placed = placed }

  pub row_written : (behind : List ℕ) → HasRowOf key sweep number (noted_line columns key.digest m ++ behind)
  row_written behind = (
    behind,
    record {
      one = line_from columns key.digest m;
      sound = record {
        sound = line_sound columns key.digest m fits;
        placed = subst (λ l. AreLinesOf key sweep number l 1) (sym (line_in_shard columns key.digest m))
            (record { lines = noted_line columns key.digest m ∷ []; are = (line_written, tt); written = sym (append-nil (noted_line columns key.digest m)) ∙ sym (append-nil (noted_line columns key.digest m ++ [])) });
      };
      written = ap (λ l. l ++ behind) (sym (line_in_shard columns key.digest m));
    },
  )
