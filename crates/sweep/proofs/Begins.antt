-- What stands of the table of a shard in a text.
use Rattle.std.proofs.Common.{◌≡◌, ◌≢◌, ◌⊎◌, ◌≤◌, ◌+◌, ◌-◌, ℕ, List, ◌++◌, inl, inr, refl, sym, ap, ◌∙◌, length, subst, arith, length-append}
use Rattle.std.specs.List.{flat_map}
use Rattle.toml.specs.Data.{Data}
use Rattle.sweep_plan.specs.Sweep.{Sweep, run_count}
use Rattle.shards.specs.declared.shard.Shard.{Shard}
use Rattle.shards.specs.Shards.{IsShard, first_run, past_run}
use Rattle.shards.proofs.Bounds.{share_grows}
use Rattle.sweep.specs.Shards.{shard_header}
use Rattle.sweep.specs.Resumed.{IsBegun, RefusesStart, runs_in}
use Rattle.sweep.specs.Sums.{BeginsWithLines, HasLineOf, IsOlder, key_of_text}
use Rattle.sweep.specs.Table.{columns_of}
use Rattle.sweep.specs.declared.summing.LineKey.{LineKey}
use Rattle.sweep.specs.declared.begun.BegunFault.TheVariants as begun_fault

module _ (text header first : List ℕ) (is : header ≡ first) where
  -- neither begins with the other
  pub apart : ((rest : List ℕ) → header ≢ text ++ rest) → ((rest : List ℕ) → text ≢ header ++ rest) → RefusesStart first text begun_fault.Other
  apart no_less no_more = record {
    no_more = λ rest same. no_more rest (same ∙ ap (λ l. l ++ rest) (sym is));
    no_less = λ rest same. no_less rest (is ∙ same);
  }

  -- lines without checksums come behind it
  pub of_before : (rest : List ℕ) → text ≡ header ++ rest → IsOlder rest → RefusesStart first text begun_fault.Older
  of_before rest behind older = record { rest = rest; written = behind ∙ ap (λ l. l ++ rest) is; older = older }

-- the runs of a shard are in order
in_order : (p : Shard) (runs : ℕ) → IsShard p → first_run p runs ≤ past_run p runs
in_order p runs sound = share_grows (p.number - 1) p.number p.of runs (omega arith) (omega (arith, sound.least, sound.most))

module _ (tree : Data) (mark : List ℕ) (sweep : Sweep) (p : Shard) (sound : IsShard p) (text : List ℕ) where
  abbrev header : List ℕ
  header = shard_header (columns_of tree) mark sweep p

  abbrev first : ℕ
  first = first_run p (run_count sweep)

  -- a beginning of the first line
  pub short_begun : (rest : List ℕ) × (header ≡ text ++ rest) → IsBegun tree mark sweep p text (length text) 0
  short_begun split = record {
    stands = inl (record { rest = split.0; written = split.1; all = refl; no_run = refl });
    few = omega (arith, in_order p (run_count sweep) sound);
  }

  -- the first line, and the lines of runs
  pub long_begun : (rest left : List ℕ) (kept runs : ℕ) → text ≡ header ++ rest → BeginsWithLines (key_of_text tree mark sweep) sweep first rest left runs
      → kept + length left ≡ length text → runs ≤ runs_in sweep p → (runs ≡ runs_in sweep p) ⊎ ¬ (HasLineOf (key_of_text tree mark sweep) sweep (first + runs) left)
      → IsBegun tree mark sweep p text kept runs
  long_begun rest left kept runs behind begins stay few no_more = record {
    stands = inr (record { rest = rest; written = behind; left = left; begins = begins; stay = stay; no_more = no_more });
    few = omega (arith, few, in_order p (run_count sweep) sound);
  }

  -- the same, by what was found
  pub lines_begun : (rest left : List ℕ) (key : LineKey) (from most runs : ℕ) → text ≡ header ++ rest → key ≡ key_of_text tree mark sweep → from ≡ first → most ≡ runs_in sweep p
      → BeginsWithLines key sweep from rest left runs → runs ≤ most → (runs ≡ most) ⊎ ¬ (HasLineOf key sweep (from + runs) left)
      → IsBegun tree mark sweep p text (length text - length left) runs
  lines_begun rest left key from most runs behind keyed at all begins few no_more =
      let own = key_of_text tree mark sweep in
      let found : BeginsWithLines own sweep first rest left runs =
      subst (λ n. BeginsWithLines own sweep n rest left runs) at (subst (λ k. BeginsWithLines k sweep from rest left runs) keyed begins) in
      let lines = flat_map (λ (line : List ℕ). line) begins.lines in
      let long : length text ≡ length header + length rest = ap length behind ∙ length-append header rest in
      let split : length rest ≡ length lines + length left = ap length begins.written ∙ length-append lines left in
      long_begun rest left (length text - length left) runs behind found (omega (arith, long, split)) (omega (arith, few, all))
      (subst (λ n. (runs ≡ n) ⊎ ¬ (HasLineOf own sweep (first + runs) left)) all
      (subst (λ n. (runs ≡ most) ⊎ ¬ (HasLineOf own sweep (n + runs) left)) at (subst (λ k. (runs ≡ most) ⊎ ¬ (HasLineOf k sweep (from + runs) left)) keyed no_more)))
