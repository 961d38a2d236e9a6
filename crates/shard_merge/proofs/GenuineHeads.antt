-- Shards that were put together, and texts that are shards, are of one sweep.
use Rattle.std.proofs.Common.{◌≡◌, ◌∙◌, ◌<◌, ℕ, List, ◌++◌, refl, sym, ap, subst, append_assoc, arith}
use Rattle.std.specs.Prelude.{Option, Vec}
use Rattle.std.specs.declared.alloc.Global.{Global}
use Rattle.std.specs.Io.KnownBytes.{Appends}
use Rattle.sweep_plan.specs.Sweep.{Sweep}
use Rattle.figures.specs.declared.column_set.ColumnSet.{ColumnSet}
use Rattle.figures.specs.Lines.{header_line}
use Rattle.figures.specs.declared.summary.SettingSummary.{SettingSummary}
use Rattle.shards.specs.declared.shard.Shard.{Shard}
use Rattle.shards.specs.Shards.{IsShard, whole}
use Rattle.shards.specs.Names.{head_cell}
use Rattle.sweep.specs.Runs.{IsAskedFor}
use Rattle.sweep.specs.Table.{names_of}
use Rattle.sweep.specs.Shards.{shard_header}
use Rattle.shard_merge.specs.Among.{IsAmongTexts, shard_at}
use Rattle.shard_merge.specs.Joined.{IsMark, Joins}
use Rattle.shard_merge.proofs.Columns.{behind_header, same_columns}
use Rattle.shard_merge.proofs.SameSweep.{AreSameHeads, same_heads}

module _ (texts : List (Vec ℕ Global)) (old new : Option (List ℕ)) (own : Sweep) (read_columns : ColumnSet) (settings : List SettingSummary) (mark : List ℕ) (columns : ColumnSet) (sweep : Sweep)
    (joins : Joins texts old new own read_columns settings) (marked : IsMark mark) (asked : IsAskedFor sweep) (body : Shard → List ℕ)
    (genuine : (text : List ℕ) → IsAmongTexts texts text → (q : Shard) × IsShard q × (text ≡ shard_header columns mark sweep q ++ body q)) where
  -- the text of a shard
  abbrev text_at : ℕ → List ℕ
  text_at number = shard_header read_columns joins.mark own (shard_at number joins.of) ++ joins.put.body (shard_at number joins.of)

  the_shard : (number : ℕ) → number < joins.of → IsShard (shard_at number joins.of)
  the_shard number within = record { least = omega arith; most = omega (arith, within); few = joins.few }

  pub among : (number : ℕ) → number < joins.of → IsAmongTexts texts (text_at number)
  among number within = joins.put.there (shard_at number joins.of) (the_shard number within) refl

  -- it names the sweep and the shard that it is said to be
  heads : (number : ℕ) (within : number < joins.of) → AreSameHeads joins.mark mark own sweep (shard_at number joins.of) (genuine (text_at number) (among number within)).0
      (header_line read_columns (names_of own.swept_keys) ++ joins.put.body (shard_at number joins.of)) (header_line columns (names_of sweep.swept_keys) ++ body (genuine (text_at number) (among number within)).0)
  heads number within =
      let p = shard_at number joins.of in
      let its = genuine (text_at number) (among number within) in
      same_heads joins.mark mark own sweep p its.0 _ _ joins.marked marked joins.asked asked (the_shard number within) its.1
      (sym (append_assoc (head_cell joins.mark own p) (header_line read_columns (names_of own.swept_keys)) (joins.put.body p)) ∙ its.2
      ∙ append_assoc (head_cell mark sweep its.0) (header_line columns (names_of sweep.swept_keys)) (body its.0))

  pub one_shard : (number : ℕ) (within : number < joins.of) → shard_at number joins.of ≡ (genuine (text_at number) (among number within)).0
  one_shard number within = (heads number within).shard

  some : 0 < joins.of
  some = omega (arith, joins.some)

  pub one_sweep : own ≡ sweep
  one_sweep = (heads 0 some).sweep

  one_mark : joins.mark ≡ mark
  one_mark = (heads 0 some).marks

  -- and it has the same columns
  pub one_column : read_columns ≡ columns
  one_column =
      let found = heads 0 some in
      let q = (genuine (text_at 0) (among 0 some)).0 in
      same_columns read_columns columns (names_of own.swept_keys) _ (body q) (found.rest ∙ ap (λ (s : Sweep). header_line columns (names_of s.swept_keys) ++ body q) (sym found.sweep))

  -- so the same stands behind its first line
  pub body_there : (number : ℕ) → number < joins.of → joins.put.body (shard_at number joins.of) ≡ body (shard_at number joins.of)
  body_there number within =
      let same = heads number within in
      behind_header read_columns columns (names_of own.swept_keys) (joins.put.body (shard_at number joins.of)) (body (shard_at number joins.of))
      (same.rest ∙ (λ i. header_line columns (names_of (sym same.sweep i).swept_keys) ++ body (sym same.shard i)))

  -- what was put is the only shard of the sweep
  pub whole_put : (table : List ℕ) → joins.put.body whole ≡ table → Appends old new (shard_header columns mark sweep whole ++ table)
  whole_put table is = subst (Appends old new) (λ i. shard_header (one_column i) (one_mark i) (one_sweep i) whole ++ is i) joins.put.written
