-- The name by which a shard says which it is of which sweep.
use Rattle.std.specs.Prelude.{ℕ, List, [], ◌∷◌, ◌++◌, Option, Some, None, codes, flat_map}
use Rattle.std.specs.Fmt.{decimal}
use Rattle.sweep_plan.specs.Sweep.{Sweep}
use Rattle.sweep_plan.specs.Asked.{axis_text, seeds_text}
use Rattle.sweep_plan.specs.Axes.{axes_of}
use Rattle.sweep_plan.specs.declared.seeds.Seeds.{Seeds}
use Rattle.shards.specs.declared.shard.Shard.{Shard}
use Rattle.shards.specs.Shards.{shard_text}

-- the word of the seeds; a dash where each setting runs with the text's own
abbrev pub seeds_word : Option Seeds → List ℕ
seeds_word None = codes "-"
seeds_word (Some r) = seeds_text r

-- the word of a width, in hundredths, and a space before it; nothing where there is none
abbrev pub until_text : Option ℕ → List ℕ
until_text None = []
until_text (Some width) = codes " until=" ++ decimal width

-- the words that ask for a sweep: that of its seeds, and a space before that of its width and of each axis
abbrev pub plan_text : Sweep → List ℕ
plan_text sweep = seeds_word sweep.seeds ++ until_text sweep.until ++ flat_map (λ axis. 32 ∷ axis_text axis) (axes_of sweep.swept_keys)

-- The name of a shard: which it is, the mark of the scenario's text, and the words that ask for the sweep, with spaces between them
abbrev pub shard_name : List ℕ → Sweep → Shard → List ℕ
shard_name mark sweep p = shard_text p ++ 32 ∷ mark ++ 32 ∷ plan_text sweep

-- Ahead of a shard's header stands its name, which is that of the column of metadata: in quotes, since it may have commas, and a comma.
abbrev pub head_cell : List ℕ → Sweep → Shard → List ℕ
head_cell mark sweep p = 34 ∷ shard_name mark sweep p ++ 34 ∷ 44 ∷ []
