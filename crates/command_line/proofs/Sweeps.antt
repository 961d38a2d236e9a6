-- Why the words of a sweep ask for none.
use Rattle.std.proofs.Common.{◌≡◌, ◌∙◌, List, Option, Some, None, false, codes, sym, ap, subst}
use Rattle.std.proofs.lemmas.Option.{none-some}
use Rattle.clap.specs.Words.{Row, first_of}
use Rattle.sweep_plan.specs.Sweep.{Sweep as Planned}
use Rattle.goals.specs.declared.want.Want.{Want}
use Rattle.shards.specs.declared.shard.Shard.{Shard}
use Rattle.ticks.specs.declared.tick.Tick.{Tick}
use Rattle.command_line.specs.Words.{have_sense, names_files, AreWantsIn, AsksForShard, AsksForTick, IsPlanIn, IsSweepIn}
use Rattle.command_line.specs.declared.words.SweepWords.{SweepWords}
use Rattle.command_line.proofs.RunRows.{rows_met}

module _ (rows : List Row) (sweep : SweepWords) (h : IsSweepIn (Some (codes "sweep", rows)) sweep) where
  same : h.rows ≡ rows
  same = sym (ap rows_met h.met_sweep)

  pub no_file : first_of (codes "FILE") rows ≡ None → ⊥
  no_file none = none-some sweep.file.now (sym none ∙ (ap (first_of (codes "FILE")) (sym same) ∙ h.file))

  pub no_table : first_of (codes "table") rows ≡ None → ⊥
  no_table none = none-some sweep.table.now (sym none ∙ (ap (first_of (codes "table")) (sym same) ∙ h.table))

  pub no_sense : have_sense rows ≡ false → ⊥
  no_sense none = let sense = ap have_sense (sym same) ∙ h.sense in cc

  pub no_written : names_files rows ≡ false → ⊥
  no_written none = let written = ap names_files (sym same) ∙ h.written in cc

  pub no_plan : ((plan : Planned) → IsPlanIn rows plan → ⊥) → ⊥
  no_plan none = none sweep.plan (subst (λ r. IsPlanIn r sweep.plan) same h.plan)

  pub no_tick : ((tick : Option Tick) → AsksForTick (first_of (codes "tick") rows) tick → ⊥) → ⊥
  no_tick none = none sweep.tick (subst (λ r. AsksForTick (first_of (codes "tick") r) sweep.tick) same h.tick)

  pub no_shard : ((shard : Option Shard) → AsksForShard (first_of (codes "shard") rows) shard → ⊥) → ⊥
  no_shard none = none sweep.shard (subst (λ r. AsksForShard (first_of (codes "shard") r) sweep.shard) same h.shard)

  pub no_wants : ((wants : List Want) → AreWantsIn rows wants → ⊥) → ⊥
  no_wants none = none sweep.wants.items (subst (λ r. AreWantsIn r sweep.wants.items) same h.wants)
