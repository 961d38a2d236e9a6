-- Sweeps that differ in their seeds alone, and what their tables have, in the order of the whole.
use Rattle.std.specs.Prelude.{◌≡◌, ◌≤◌, ◌+◌, ◌-◌, ◌*◌, ℕ, List, [], ◌∷◌, Some, None, map, take, drop}
use Rattle.std.specs.List.{flat_map, range_with_len}
use Rattle.sweep_plan.specs.Sweep.{Sweep, seed_count}
use Rattle.sweep_plan.specs.declared.seeds.Seeds.{Seeds}

-- the sweep with these seeds, all of which each setting runs with
abbrev pub with_seeds : Sweep → Seeds → Sweep
with_seeds sweep r = record { swept_keys = sweep.swept_keys; seeds = Some r; until = None }

-- the ranges follow one another, from a seed to before another, and leave none out
abbrev pub AreInTurn : ℕ → List Seeds → ℕ → Type 0
AreInTurn from [] past = from ≡ past
AreInTurn from (r ∷ more) past = (r.first ≡ from) × (r.first ≤ r.last) × AreInTurn (r.last + 1) more past

-- what a table has of its runs, setting after setting
pub record Ranged (X : Type 0) : Type 0 where
  pub seeds : Seeds
  pub things : List X

-- of the setting of this number
abbrev pub of_setting : {X : Type 0} → ℕ → Ranged X → List X
of_setting number t = take (seed_count (Some t.seeds)) (drop (number * seed_count (Some t.seeds)) t.things)

-- what tables have, in the order of the whole: for each setting what each of them has of it
abbrev pub in_turn : {X : Type 0} → ℕ → List (Ranged X) → List X
in_turn settings tables = flat_map (λ number. flat_map (of_setting number) tables) (range_with_len 0 settings)

abbrev pub seeds_of_tables : {X : Type 0} → List (Ranged X) → List Seeds
seeds_of_tables tables = map (λ t. t.seeds) tables

-- The things of a whole that have the seeds of a range: of each setting, which has so many things, those from that of the range's first seed on. That
-- of the whole is given.
abbrev pub part : {X : Type 0} → ℕ → ℕ → ℕ → List X → Seeds → List X
part settings each first all r = flat_map (λ number. take (seed_count (Some r)) (drop (number * each + (r.first - first)) all)) (range_with_len 0 settings)
