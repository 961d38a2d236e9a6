-- The table to which shards were put together, put together alone.
use Rattle.std.proofs.Common.{◌≡◌, ◌∙◌, ◌<◌, ℕ, List, [], ◌++◌, sym, ap, arith}
use Rattle.std.specs.Prelude.{Some, Vec}
use Rattle.std.specs.declared.alloc.Global.{Global}
use Rattle.sweep_plan.specs.Sweep.{Sweep}
use Rattle.figures.specs.declared.column_set.ColumnSet.{ColumnSet}
use Rattle.figures.specs.declared.summary.SettingSummary.{SettingSummary}
use Rattle.shards.specs.declared.shard.Shard.{Shard}
use Rattle.shards.specs.Shards.{IsShard, whole}
use Rattle.shards.proofs.Whole.{whole_is_shard}
use Rattle.sweep.specs.Shards.{shard_header}
use Rattle.shard_merge.specs.Among.{IsAmongTexts, shard_at}
use Rattle.shard_merge.specs.Joined.{Joins}
use Rattle.shard_merge.specs.Genuine.{AreAll, IsAgain}
use Rattle.shard_merge.proofs.GenuineHeads.{body_there, one_column, one_shard, one_sweep, whole_put}

module _ (texts again : List (Vec ℕ Global)) (table put : List ℕ) (sweep read : Sweep) (columns columns_too : ColumnSet) (settings others : List SettingSummary)
    (joins : Joins texts (Some []) (Some table) sweep columns settings) (alone : AreAll again table) (later : Joins again (Some []) (Some put) read columns_too others) where
  abbrev body : Shard → List ℕ
  body p = joins.put.body p

  abbrev table_is : table ≡ shard_header columns joins.mark sweep whole ++ body whole
  table_is = joins.put.written

  abbrev genuine : (text : List ℕ) → IsAmongTexts again text → (q : Shard) × IsShard q × (text ≡ shard_header columns joins.mark sweep q ++ body q)
  genuine text among = (whole, whole_is_shard, alone text among ∙ table_is)

  some : 0 < later.of
  some = omega (arith, later.some)

  only : shard_at 0 later.of ≡ whole
  only = one_shard again (Some []) (Some put) read columns_too others joins.mark columns sweep later joins.marked joins.asked body genuine 0 some

  same_body : later.put.body whole ≡ body whole
  same_body =
      ap later.put.body (sym only) ∙ body_there again (Some []) (Some put) read columns_too others joins.mark columns sweep later joins.marked joins.asked body genuine 0 some
      ∙ ap body only

  pub put_again : IsAgain table sweep columns put read columns_too
  put_again = record {
    same_table = whole_put again (Some []) (Some put) read columns_too others joins.mark columns sweep later joins.marked joins.asked body genuine (body whole) same_body ∙ sym table_is;
    same_sweep = one_sweep again (Some []) (Some put) read columns_too others joins.mark columns sweep later joins.marked joins.asked body genuine;
    column = one_column again (Some []) (Some put) read columns_too others joins.mark columns sweep later joins.marked joins.asked body genuine;
  }
