-- What a sweep is: keys that are set to each of some values, and the seeds of each setting.
use Rattle.std.specs.Prelude.{ℕ, ◌+◌, ◌-◌, ◌*◌, Bool, if◌then◌else◌, List, [], ◌∷◌, Option, Some, None, length}
use Rattle.sweep_plan.specs.declared.keys.SweptKey.{SweptKey}
use Rattle.sweep_plan.specs.declared.values.SweptValue.{SweptValue}
use Rattle.sweep_plan.specs.declared.seeds.Seeds.{Seeds}

-- a key and the values that it is set to, one after the other; where it goes together with the key before it, both change at one time
pub record KeyValues : Type 0 where
  pub key : SweptKey
  pub together : Bool
  pub values : List SweptValue

-- without seeds each setting runs with the text's own; without a width, which is in hundredths, each setting runs with all seeds
pub record Sweep : Type 0 where
  pub swept_keys : List KeyValues
  pub seeds : Option Seeds
  pub until : Option ℕ

-- how many choices a key leaves: one for each of its values; none but that of the key before it, where they go together
abbrev pub choice_count : KeyValues → ℕ
choice_count s = if s.together then 1 else length s.values

-- how many settings there are: one for each choice for each key
abbrev pub setting_count : List KeyValues → ℕ
setting_count [] = 1
setting_count (s ∷ more) = choice_count s * setting_count more

-- how often each setting runs
abbrev pub seed_count : Option Seeds → ℕ
seed_count None = 1
seed_count (Some r) = r.last + 1 - r.first

abbrev pub run_count : Sweep → ℕ
run_count sweep = setting_count sweep.swept_keys * seed_count sweep.seeds
