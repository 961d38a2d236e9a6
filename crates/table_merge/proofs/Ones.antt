-- What the first line of a text says is one.
use Rattle.std.proofs.Common.{◌≡◌, ◌∙◌, ◌<◌, ◌≤◌, ◌^◌, ℕ, List, ◌++◌, refl, sym, ap, subst, arith, append_assoc}
use Rattle.std.specs.Prelude.{Option, Some, None, Vec}
use Rattle.std.specs.declared.alloc.Global.{Global}
use Rattle.std.proofs.lemmas.Option.{none-some, same_Some}
use Rattle.figures.specs.declared.column_set.ColumnSet.{ColumnSet}
use Rattle.figures.specs.Lines.{header_line}
use Rattle.sweep_plan.specs.Sweep.{Sweep, run_count}
use Rattle.sweep_plan.specs.Asked.{AsksForSeeds, seeds_text}
use Rattle.sweep_plan.specs.declared.seeds.Seeds.{Seeds}
use Rattle.shards.specs.declared.shard.Shard.{Shard}
use Rattle.shards.specs.Shards.{IsShard, whole}
use Rattle.shards.specs.Names.{head_cell}
use Rattle.sweep.specs.Runs.{IsAskedFor}
use Rattle.sweep.specs.Table.{names_of}
use Rattle.shard_merge.specs.Reasons.{BeginsAs}
use Rattle.shard_merge.proofs.Columns.{behind_header, same_columns}
use Rattle.shard_merge.proofs.PlacesMore.{one_text}
use Rattle.shard_merge.proofs.SameSweep.{same_heads}
use Rattle.table_merge.specs.Seeds.{with_seeds}
use Rattle.table_merge.specs.Found.{BeginsAsTable, IsTableAt}

-- two first lines of one text are one, and so is what comes behind them
pub record AreOne (mark other : List ℕ) (columns columns_too : ColumnSet) (s t : Sweep) (p q : Shard) (x y : List ℕ) : Type 0 where
  pub marks : mark ≡ other
  pub column : columns ≡ columns_too
  pub sweep : s ≡ t
  pub shard : p ≡ q
  pub rest : x ≡ y

pub one_head : (text mark other : List ℕ) (columns columns_too : ColumnSet) (s t : Sweep) (p q : Shard) (a : BeginsAs text mark columns s p) (b : BeginsAs text other columns_too t q)
    → AreOne mark other columns columns_too s t p q a.rest b.rest
one_head text mark other columns columns_too s t p q a b =
    let same = same_heads mark other s t p q (header_line columns (names_of s.swept_keys) ++ a.rest) (header_line columns_too (names_of t.swept_keys) ++ b.rest) a.marked b.marked a.asked b.asked a.sound b.sound
    (sym (append_assoc (head_cell mark s p) (header_line columns (names_of s.swept_keys)) a.rest) ∙ sym a.written ∙ b.written
    ∙ append_assoc (head_cell other t q) (header_line columns_too (names_of t.swept_keys)) b.rest) in
    let rest : header_line columns (names_of s.swept_keys) ++ a.rest ≡ header_line columns_too (names_of s.swept_keys) ++ b.rest =
    same.rest ∙ ap (λ (z : Sweep). header_line columns_too (names_of z.swept_keys) ++ b.rest) (sym same.sweep) in
    record {
      marks = same.marks;
      column = same_columns columns columns_too (names_of s.swept_keys) a.rest b.rest rest;
      sweep = same.sweep;
      shard = same.shard;
      rest = behind_header columns columns_too (names_of s.swept_keys) a.rest b.rest rest;
    }

-- sweeps that are one have one range of seeds
pub one_range : (s t : Sweep) (r q : Seeds) → with_seeds s r ≡ with_seeds t q → r ≡ q
one_range s t r q same = same_Some r q (ap (λ (z : Sweep). z.seeds) same)

-- a sweep that is another with some seeds has them
pub again_with : (s t : Sweep) (r : Seeds) → s ≡ with_seeds t r → s ≡ with_seeds s r
again_with s t r is = is ∙ ap (λ (z : Sweep). with_seeds z r) (sym is)

pub table_range : (text mark : List ℕ) (columns : ColumnSet) (sweep : Sweep) (r q : Seeds) → BeginsAsTable text mark columns sweep r → BeginsAsTable text mark columns sweep q → r ≡ q
table_range text mark columns sweep r q a b =
    one_range sweep sweep r q (one_head text mark mark columns columns (with_seeds sweep r) (with_seeds sweep q) whole whole a b).sweep

pub range_at : (texts : List (Vec ℕ Global)) (mark : List ℕ) (columns : ColumnSet) (sweep : Sweep) (place : ℕ) (r q : Seeds) → IsTableAt texts mark columns sweep place r
    → IsTableAt texts mark columns sweep place q → r ≡ q
range_at texts mark columns sweep place r q a b =
    table_range a.text mark columns sweep r q a.begins (subst (λ t. BeginsAsTable t mark columns sweep q) (one_text texts place a.text b.text a.there b.there) b.begins)

-- the only shard of a sweep
pub only_shard : (p : Shard) → IsShard p → p.of ≡ 1 → p ≡ whole
only_shard p sound one =
    let number : p.number ≡ 1 = omega (arith, sound.least, sound.most, one) in
    (λ i. record { number = number i; of = one i })

-- the seeds of a sweep that is asked for
pub seeds_asked : (word : Option (List ℕ)) (seeds : Option Seeds) (r : Seeds) → AsksForSeeds word seeds → seeds ≡ Some r → (r.first ≤ r.last) × (r.last < 2 ^ 63)
seeds_asked None None r asks is = absurd (none-some r is)
seeds_asked None (Some q) r asks is = absurd asks
seeds_asked (Some word) None r asks is = absurd asks
seeds_asked (Some word) (Some q) r asks is = let same = same_Some q r is in subst (λ (z : Seeds). (z.first ≤ z.last) × (z.last < 2 ^ 63)) same (asks.ordered, asks.low)

pub asked_range : (s t : Sweep) (r : Seeds) → IsAskedFor s → s ≡ with_seeds t r → (r.first ≤ r.last) × (r.last < 2 ^ 63)
asked_range s t r asked is = seeds_asked asked.seeds s.seeds r asked.asked.seeded (ap (λ (z : Sweep). z.seeds) is)

-- a sweep is asked for with other seeds, too, where it then has few runs
pub asked_with : (s : Sweep) (r : Seeds) → IsAskedFor s → r.first ≤ r.last → r.last < 2 ^ 63 → run_count (with_seeds s r) ≤ 1000000 → IsAskedFor (with_seeds s r)
asked_with s r asked ordered low few = record {
  swept_keys = asked.swept_keys;
  seeds = Some (seeds_text r);
  until = None;
  asked = record {
    swept_keys = asked.asked.swept_keys;
    seeded = record { written = refl; ordered = ordered; low = low };
    few = few;
    wanted = refl;
    width = (λ w is. cc);
  };
}
