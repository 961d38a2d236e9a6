-- The settings of a sweep, in their order, and how the choices of one are printed.
use Rattle.std.specs.Prelude.{ℕ, List, [], ◌∷◌, ◌++◌, if◌then◌else◌, length, map}
use Rattle.std.specs.List.{flat_map, join_with_byte, range_with_len}
use Rattle.sweep_plan.specs.Axes.{value_at}
use Rattle.sweep_plan.specs.Keys.{key_name}
use Rattle.sweep_plan.specs.Values.{value_text}
use Rattle.sweep_plan.specs.Sweep.{KeyValues}
use Rattle.sweep_plan.specs.declared.keys.SweptKey.{SweptKey}
use Rattle.sweep_plan.specs.declared.values.SweptValue.{SweptValue}
use Rattle.sweep_plan.specs.declared.choice.Choice.{Choice}

abbrev pub choice_of : SweptKey → SweptValue → Choice
choice_of k v = record { key = k; value = v }

-- the places at which a key has its values, one after the other: that of the key before it, where they go together; else each
abbrev pub places_of : ℕ → KeyValues → List ℕ
places_of place s = if s.together then place ∷ [] else range_with_len 0 (length s.values)

-- each choice of one value for each of these keys, where the key before them has its value at a place; the last one's values come first one after the other
abbrev pub settings_from : ℕ → List KeyValues → List (List Choice)
settings_from place [] = [] ∷ []
settings_from place (s ∷ more) = flat_map (λ at. map (λ setting. choice_of s.key (value_at s at) ∷ setting) (settings_from at more)) (places_of place s)

-- all settings
abbrev pub settings_of : List KeyValues → List (List Choice)
settings_of swept_keys = settings_from 0 swept_keys

-- a choice is printed as its key's name, an equals sign and its value
abbrev pub choice_text : Choice → List ℕ
choice_text c = key_name c.key ++ 61 ∷ value_text c.value

-- a setting as words: its choices in their order, with spaces between them
abbrev pub choices_text : List Choice → List ℕ
choices_text setting = join_with_byte 32 (map choice_text setting)
