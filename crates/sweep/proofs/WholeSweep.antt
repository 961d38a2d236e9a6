-- A whole sweep is its only shard, with nothing made before.
use Rattle.std.proofs.Common.{◌≡◌, ℕ, ◌+◌, List, Option, sym, ap, subst, ◌∙◌, length, map, add-zero}
use Rattle.std.proofs.lemmas.List.{length-map}
use Rattle.toml.specs.Data.{Data}
use Rattle.sweep_plan.specs.Sweep.{Sweep, run_count, seed_count}
use Rattle.shards.specs.declared.shard.Shard.{Shard}
use Rattle.shards.specs.Shards.{first_run, past_run, whole}
use Rattle.shards.proofs.Whole.{first_of_whole, past_of_whole}
use Rattle.sweep.specs.declared.gathering.Gathering.{Gathering}
use Rattle.sweep.specs.Runs.{Made, IsMadeAs, AreMadeBetween, noted, runs_of}
use Rattle.sweep.specs.Shards.{AreMadeBehind}
use Rattle.sweep.specs.Summaries.{IsGathered, MakesAll, MakesRest, summaries_in}
use Rattle.sweep.proofs.Flat.{runs_counted}
use Rattle.sweep.proofs.Gathered.{all_through}
use Rattle.sweep.proofs.Steps.{all_made, zipped_long}

-- what holds of a shard behind so much holds of the only one behind nothing, where it is that and nothing was made
pub of_whole : (P : Shard → ℕ → ℕ → Type 0) (p : Shard) (kept runs : ℕ) → p ≡ whole → kept ≡ 0 → runs ≡ 0 → P p kept runs → P whole 0 0
of_whole P p kept runs only none_kept no_runs holds =
    subst (λ q. P q 0 0) only (subst (λ k. P p k 0) none_kept (subst (λ n. P p kept n) no_runs holds))

module _ (tree : Data) (sweep : Sweep) where
  -- its runs are all
  pub all_behind : (made : List Made) → AreMadeBehind tree sweep whole 0 made → AreMadeBetween tree sweep 0 (run_count sweep) made
  all_behind made are =
      let count = run_count sweep in
      let first : first_run whole count + 0 ≡ 0 = add-zero (first_run whole count) ∙ first_of_whole count in
      subst (λ n. AreMadeBetween tree sweep n count made) first (subst (λ n. AreMadeBetween tree sweep (first_run whole count + 0) n made) (past_of_whole count) are)

  -- so all settings are summed up
  pub makes_all : (mark : List ℕ) (old new : Option (List ℕ)) (gathering : Gathering)
      → MakesRest tree mark sweep whole 0 0 old new (λ notes. IsGathered (seed_count sweep.seeds) notes gathering) → MakesAll tree mark sweep old new (summaries_in gathering)
  makes_all mark old new gathering makes =
      let made = makes.writes.made in
      let all = all_made tree sweep made (all_behind made makes.writes.are) in
      let long : length (map noted made) ≡ run_count sweep =
      length-map made noted ∙ sym (zipped_long (IsMadeAs tree) (runs_of sweep) made all) ∙ runs_counted sweep in
      record {
        makes = record { writes = makes.writes; gathered = makes.gathered.summed };
        all = all_through sweep (map noted made) gathering long makes.gathered;
      }
