-- The seed in the line of a sweep's first run.
use Rattle.std.proofs.Common.{◌≡◌, ◌≢◌, ◌∙◌, ◌<◌, ◌≤◌, ◌^◌, ℕ, List, [], ◌∷◌, ◌++◌, map, decimal, lit<, arith, refl, sym, ap, subst, append_assoc}
use Rattle.std.specs.Prelude.{All, IfSome, IsNone, Option, Some, None}
use Rattle.std.specs.Option.{ForSome}
use Rattle.std.specs.Str.{IsUtf8}
use Rattle.std.proofs.lemmas.Fmt.{IsAscii-decimal, decimal_injective}
use Rattle.std.proofs.lemmas.List.{append_cancel_left}
use Rattle.std.proofs.lemmas.List.Elements.{All-head}
use Rattle.std.proofs.lemmas.Nat.{mul-le}
use Rattle.std.proofs.lemmas.Option.{same_Some}
use Rattle.std.proofs.lemmas.Str.{IsUtf8-from_ascii}
use Rattle.decimals.specs.Numbers.{IsDecimal}
use Rattle.sweep_plan.specs.Sweep.{Sweep, run_count, seed_count, setting_count}
use Rattle.sweep_plan.specs.Values.{FitsToml}
use Rattle.sweep_plan.specs.declared.choice.Choice.{Choice}
use Rattle.sweep_plan.proofs.Choices.{settings_some}
use Rattle.sweep_plan.proofs.Words.{Lacks, decimal_lacks}
use Rattle.line_sums.specs.Sums.{IsCut, checksum}
use Rattle.line_sums.proofs.Cuts.{cut_one, not_cut, sum_no_space}
use Rattle.figures.specs.declared.column_set.ColumnSet.{ColumnSet}
use Rattle.figures.specs.Lines.{cell, cells_joined, figures_in_order, run_line, table_line}
use Rattle.figures.specs.Notes.{note_text}
use Rattle.figures.specs.declared.run.RunFigures.{RunFigures}
use Rattle.figures.proofs.SameFigures.{Small}
use Rattle.figures.proofs.SameNotes.{note_lacks}
use Rattle.figures.proofs.Told.{plain_field}
use Rattle.sweep.specs.Runs.{IsAskedFor, IsRunAt, planned_as}
use Rattle.sweep.specs.Sums.{HasLineOf, known_seed, line_key, value_cells}
use Rattle.sweep.specs.FirstSeed.{HasCell, HasSeed, IsItsSeed}
use Rattle.sweep.specs.declared.summing.LineKey.{LineKey}
use Rattle.sweep.proofs.Cells.{cells_laid}
use Rattle.sweep.proofs.Sizes.{some_runs}

-- ---- where a text has its cell

module _ (values text one : List ℕ) (has : HasCell values text one) where
  abbrev cells : List ℕ
  cells = one ++ 44 ∷ has.behind

  abbrev its_line : List ℕ
  its_line = has.metadata ++ 44 ∷ (values ++ cells)

  pub spaced : ¬ (Lacks 32 text)
  spaced lacks = not_cut 32 text has.sum its_line lacks has.written

  module _ (sum line : List ℕ) (summed : IsCut 32 text sum line) where
    line_is : line ≡ its_line
    line_is = (cut_one 32 sum has.sum line its_line summed.lacks has.spaceless (sym summed.written ∙ has.written)).1

    pub noted : ¬ (Lacks 44 line)
    noted lacks = not_cut 44 line has.metadata (values ++ cells) lacks line_is

    module _ (metadata behind : List ℕ) (cut : IsCut 44 line metadata behind) where
      behind_is : behind ≡ values ++ cells
      behind_is = (cut_one 44 metadata has.metadata behind (values ++ cells) cut.lacks has.one (sym cut.written ∙ line_is)).1

      pub valued : ¬ ((rest : List ℕ) → behind ≢ values ++ rest)
      valued none = none cells behind_is

      module _ (left : List ℕ) (split : behind ≡ values ++ left) where
        pub left_is : left ≡ cells
        left_is = append_cancel_left values left cells (sym split ∙ behind_is)

        pub seeded : ¬ (Lacks 44 left)
        seeded lacks = not_cut 44 left one has.behind lacks left_is

-- the cell is there
pub cell_there : (values text sum line metadata behind left one rest : List ℕ) → IsCut 32 text sum line → IsCut 44 line metadata behind → behind ≡ values ++ left → IsCut 44 left one rest
    → HasCell values text one
cell_there values text sum line metadata behind left one rest summed noted split cut = record {
  sum = sum;
  metadata = metadata;
  behind = rest;
  spaceless = summed.lacks;
  one = noted.lacks;
  only = cut.lacks;
  written = summed.written ∙ ap (λ l. sum ++ 32 ∷ l) (noted.written ∙ ap (λ l. metadata ++ 44 ∷ l) (split ∙ ap (λ l. values ++ l) cut.written));
}

-- it is one
pub one_cell : (values text one other : List ℕ) → HasCell values text one → HasCell values text other → one ≡ other
one_cell values text one other a b =
    let same = left_is values text one a b.sum (b.metadata ++ 44 ∷ (values ++ (other ++ 44 ∷ b.behind))) (record { lacks = b.spaceless; written = b.written }) b.metadata (values ++ (other ++ 44 ∷ b.behind))
    (record { lacks = b.one; written = refl }) (other ++ 44 ∷ b.behind) refl in
    sym (cut_one 44 other one b.behind a.behind b.only a.only same).0

-- ---- the number in it

pub seed_there : (values text one : List ℕ) (seed other : ℕ) → HasCell values text one → IsDecimal one seed → HasSeed values text other → other ≡ seed
seed_there values text one seed other there says has =
    let same = one_cell values text has.cell one has.there there in
    let low : other < 2 ^ 64 = let l = has.says.low in omega (arith, l) in
    let low_too : seed < 2 ^ 64 = let l = says.low in omega (arith, l) in
    decimal_injective other seed low low_too (has.says.written ∙ same ∙ sym says.written)

pub no_number : (values text one : List ℕ) → HasCell values text one → ((n : ℕ) → ¬ (IsDecimal one n)) → (seed : ℕ) → ¬ (HasSeed values text seed)
no_number values text one there none seed has = none seed (subst (λ w. IsDecimal w seed) (one_cell values text has.cell one has.there there) has.says)

pub cell_utf8 : (values text one : List ℕ) (seed : ℕ) → HasCell values text one → HasSeed values text seed → IsUtf8 one
cell_utf8 values text one seed there has =
    let low : seed < 2 ^ 64 = let l = has.says.low in omega (arith, l) in
    subst IsUtf8 (has.says.written ∙ one_cell values text has.cell one has.there there) (IsUtf8-from_ascii (decimal seed) (IsAscii-decimal seed low))

-- what was read of the cell
module _ (values text one : List ℕ) (there : HasCell values text one) where
  pub number_so : (found : Option ℕ) → IfSome found (IsDecimal one) → IfSome found (λ seed. (other : ℕ) → HasSeed values text other → other ≡ seed)
  number_so None says = tt
  number_so (Some seed) says = λ other has. seed_there values text one seed other there says has

  pub no_number_so : (found : Option ℕ) → (IsNone found → (n : ℕ) → ¬ (IsDecimal one n)) → IsNone found → (seed : ℕ) → ¬ (HasSeed values text seed)
  no_number_so found none is = no_number values text one there (none is)

-- ---- the line of the first run has its seed there

-- there is a first run
pub some_of_all : (sweep : Sweep) → IsAskedFor sweep → 0 < run_count sweep
some_of_all sweep asked =
    let some : 1 ≤ setting_count sweep.swept_keys = settings_some sweep.swept_keys asked.asked.swept_keys.axes.sound in
    omega (arith, mul-le 1 1 (setting_count sweep.swept_keys) (seed_count sweep.seeds) some (some_runs sweep asked))

seed_cell : (columns : ColumnSet) (seed : ℕ) (run : RunFigures) → seed < 2 ^ 64
    → run_line columns [] seed run ≡ decimal seed ++ 44 ∷ (cells_joined (map cell (figures_in_order columns run)) ++ 10 ∷ [])
unfolding table_line
seed_cell columns seed run low =
    let more = cells_joined (map cell (figures_in_order columns run)) in
    let plain = plain_field (decimal seed) (decimal_lacks seed 44 low (lit< tt)) (decimal_lacks seed 34 low (lit< tt)) (decimal_lacks seed 13 low (lit< tt)) (decimal_lacks seed 10 low (lit< tt)) in
    ap (λ l. (l ++ 44 ∷ more) ++ 10 ∷ []) plain ∙ append_assoc (decimal seed) (44 ∷ more) (10 ∷ [])

module _ (key : LineKey) (sweep : Sweep) (text values : List ℕ) (setting : List Choice) (asked : Option ℕ) (there : IsRunAt sweep 0 (planned_as setting asked))
    (fit : All (λ (c : Choice). FitsToml c.value) setting) (laid : values ≡ value_cells setting) (has : HasLineOf key sweep 0 text) where
  small_seed : has.1.is.placed.cells.seed < 2 ^ 63
  small_seed =
      let held = has.1.is.placed.cells in
      All-head Small (Some held.seed) (figures_in_order key.columns held.run) held.small held.seed refl

  pub has_seed : HasSeed values text has.1.is.placed.cells.seed
  has_seed =
      let placed = has.1.is.placed in
      let held = placed.cells in
      let left = has.0 in
      let seed = held.seed in
      let note = note_text placed.note in
      let sum = checksum key.digest has.1.is.rest in
      let low : seed < 2 ^ 64 = let l = small_seed in omega (arith, l) in
      let more : List ℕ = cells_joined (map cell (figures_in_order key.columns held.run)) ++ 10 ∷ [] in
      let behind : placed.behind ≡ values ++ (decimal seed ++ 44 ∷ more) =
      cells_laid key sweep 0 placed.note placed.behind setting asked there fit (known_seed asked key.own) refl values laid held ∙ ap (λ l. values ++ l) (seed_cell key.columns seed held.run low) in
      let line : has.1.is.rest ≡ note ++ 44 ∷ (values ++ (decimal seed ++ 44 ∷ more)) = placed.written ∙ append_assoc note (44 ∷ []) placed.behind ∙ ap (λ l. note ++ 44 ∷ l) behind in
      let further : has.1.is.rest ++ left ≡ note ++ 44 ∷ (values ++ (decimal seed ++ 44 ∷ (more ++ left))) =
      ap (λ l. l ++ left) line ∙ append_assoc note (44 ∷ (values ++ (decimal seed ++ 44 ∷ more))) left
      ∙ ap (λ l. note ++ 44 ∷ l) (append_assoc values (decimal seed ++ 44 ∷ more) left ∙ ap (λ l. values ++ l) (append_assoc (decimal seed) (44 ∷ more) left)) in
      record {
        cell = decimal seed;
        there = record {
          sum = sum;
          metadata = note;
          behind = more ++ left;
          spaceless = sum_no_space key.digest has.1.is.rest;
          one = note_lacks 44 (lit< tt) refl placed.note placed.small;
          only = decimal_lacks seed 44 low (lit< tt);
          written = has.1.written ∙ ap (λ l. l ++ left) has.1.is.sum ∙ append_assoc sum (32 ∷ has.1.is.rest) left ∙ ap (λ l. sum ++ 32 ∷ l) further;
        };
        says = record { written = refl; low = small_seed };
      }

module _ (sweep : Sweep) (text values : List ℕ) (setting : List Choice) (asked : Option ℕ) (there : IsRunAt sweep 0 (planned_as setting asked))
    (fit : All (λ (c : Choice). FitsToml c.value) setting) (laid : values ≡ value_cells setting) where
  pub its_seed : (found : Option ℕ) → IfSome found (λ seed. (other : ℕ) → HasSeed values text other → other ≡ seed) → IfSome found (IsItsSeed sweep text)
  its_seed None some = tt
  its_seed (Some seed) some = λ key has. some has.1.is.placed.cells.seed (has_seed key sweep text values setting asked there fit laid has)

  pub no_seed : (found : Option ℕ) → (IsNone found → (seed : ℕ) → ¬ (HasSeed values text seed)) → IsNone found → (key : LineKey) → ¬ (HasLineOf key sweep 0 text)
  no_seed found none is key has = none is has.1.is.placed.cells.seed (has_seed key sweep text values setting asked there fit laid has)

-- ---- a line is genuine with its own seed

own_seed : (s : ℕ) (asked : Option ℕ) → ForSome (known_seed asked None) (λ k. s ≡ k) → ForSome (known_seed asked (Some s)) (λ k. s ≡ k)
own_seed s None known = λ k one. same_Some s k one
own_seed s (Some a) known = known

module _ (columns : ColumnSet) (mark : List ℕ) (sweep : Sweep) (text : List ℕ) where
  with_own : (has : HasLineOf (line_key columns None mark sweep) sweep 0 text) → HasLineOf (line_key columns (Some has.1.is.placed.cells.seed) mark sweep) sweep 0 text
  with_own has =
      let it = has.1 in
      let placed = it.is.placed in
      let held = placed.cells in (
        has.0,
        record {
          line = it.line;
          is = record {
            fed = it.is.fed;
            rest = it.is.rest;
            sum = it.is.sum;
            placed = record {
              note = placed.note;
              small = placed.small;
              behind = placed.behind;
              cells = record {
                planned = held.planned;
                there = held.there;
                seed = held.seed;
                seeded = own_seed held.seed held.planned.seed held.seeded;
                run = held.run;
                agrees = held.agrees;
                small = held.small;
                written = held.written;
              };
              written = placed.written;
            };
          };
          written = it.written;
        },
      )

  -- so a text that begins with no such line with its seed begins with none
  pub no_line : (seed : ℕ) → IsItsSeed sweep text seed → ¬ (HasLineOf (line_key columns (Some seed) mark sweep) sweep 0 text) → ¬ (HasLineOf (line_key columns None mark sweep) sweep 0 text)
  no_line seed its none has = none (subst (λ s. HasLineOf (line_key columns (Some s) mark sweep) sweep 0 text) (its (line_key columns None mark sweep) has) (with_own has))
