-- By which words a sweep is asked for.
use Rattle.std.specs.Prelude.{◌≡◌, ◌≢◌, ℕ, ◌<◌, ◌≤◌, ◌^◌, ◌==◌, nat_lt, false, List, [], ◌∷◌, ◌++◌, Option, Some, None, All, AllPairs, get_or, map, length}
use Rattle.std.specs.Fmt.{decimal}
use Rattle.std.specs.List.{join_with_byte, range_with_len, slice_split}
use Rattle.std.specs.Option.{ForSome}
use Rattle.sweep_plan.specs.Keys.{key_name, names_first, MaySet}
use Rattle.sweep_plan.specs.Values.{value_text, FitsToml}
use Rattle.sweep_plan.specs.Sweep.{KeyValues, Sweep, run_count}
use Rattle.sweep_plan.specs.Axes.{value_at, goes_on, axes_of, place_count}
use Rattle.sweep_plan.specs.declared.keys.SweptKey.{SweptKey}
use Rattle.sweep_plan.specs.declared.values.SweptValue.{SweptValue}
use Rattle.sweep_plan.specs.declared.seeds.Seeds.{Seeds}
use Rattle.sweep_plan.specs.declared.fault.PlanFault.{PlanFault}
use Rattle.sweep_plan.specs.declared.fault.PlanFault.TheVariants.{Words, Memory}

-- the names of an axis's keys, with plus signs between them
abbrev pub names_text : List KeyValues → List ℕ
names_text axis = join_with_byte 43 (map (λ s. key_name s.key) axis)

-- the values of its keys at a place, with plus signs between them
abbrev pub values_text : List KeyValues → ℕ → List ℕ
values_text axis place = join_with_byte 43 (map (λ s. value_text (value_at s place)) axis)

-- an axis is written as its names, an equals sign, and its values at each place, with commas between the places
abbrev pub axis_text : List KeyValues → List ℕ
axis_text axis = names_text axis ++ 61 ∷ join_with_byte 44 (map (values_text axis) (range_with_len 0 (place_count axis)))

-- the words of swept keys: one for each axis
abbrev pub swept_words : List KeyValues → List (List ℕ)
swept_words swept_keys = map axis_text (axes_of swept_keys)

-- the key may be set, and there are values, each of which fits
pub record IsSwept (s : KeyValues) : Type 0 where
  pub key : MaySet s.key
  pub some : 0 < length s.values
  pub fit : All FitsToml s.values

-- keys that go together have as many values
abbrev pub IsLevel : List KeyValues → Type 0
IsLevel axis = All (λ s. length s.values ≡ place_count axis) axis

-- the words are the swept keys, written out; the first key goes together with none before it
pub record AreAxes (words : List (List ℕ)) (swept_keys : List KeyValues) : Type 0 where
  pub written : swept_words swept_keys ≡ words
  pub begins : goes_on swept_keys ≡ false
  pub level : All IsLevel (axes_of swept_keys)
  pub sound : All IsSwept swept_keys

-- no two swept keys have one key, or keys of which the one names the first of the items that the other names
abbrev pub AreApart : List KeyValues → Type 0
AreApart swept_keys = AllPairs (λ a b. (a.key ≢ b.key) × (names_first a.key b.key ≡ false)) swept_keys

-- the words are the swept keys, and no key stands twice, nor by the number 1 beside its name alone
pub record AreSweptKeys (words : List (List ℕ)) (swept_keys : List KeyValues) : Type 0 where
  pub axes : AreAxes words swept_keys
  pub once : AreApart swept_keys

-- seeds are written as the first, two dots and the last
abbrev pub seeds_text : Seeds → List ℕ
seeds_text r = decimal r.first ++ 46 ∷ 46 ∷ decimal r.last

-- the word is the range of seeds, written out; it isn't empty, and its seeds are at most 2^63 - 1
pub record IsRange (word : List ℕ) (r : Seeds) : Type 0 where
  pub written : seeds_text r ≡ word
  pub ordered : r.first ≤ r.last
  pub low : r.last < 2 ^ 63

-- these seeds are asked for; none where there is no word
abbrev pub AsksForSeeds : Option (List ℕ) → Option Seeds → Type 0
AsksForSeeds None None = Unit {0}
AsksForSeeds None (Some r) = ⊥
AsksForSeeds (Some word) None = ⊥
AsksForSeeds (Some word) (Some r) = IsRange word r

-- an interval may be 1 to 100 hundredths wide
pub record IsWidth (width : ℕ) : Type 0 where
  pub least : 1 ≤ width
  pub most : width ≤ 100

-- the words ask for the sweep, which has at most 1,000,000 runs; the width, if there is one, is given as a number
pub record IsSweepOf (words : List (List ℕ)) (seeds : Option (List ℕ)) (until : Option ℕ) (sweep : Sweep) : Type 0 where
  pub swept_keys : AreSweptKeys words sweep.swept_keys
  pub seeded : AsksForSeeds seeds sweep.seeds
  pub few : run_count sweep ≤ 1000000
  pub wanted : sweep.until ≡ until
  pub width : ForSome sweep.until IsWidth

-- the words ask for no sweep, or memory was refused
abbrev pub RefusesSweep : List (List ℕ) → Option (List ℕ) → Option ℕ → PlanFault → Type 0
RefusesSweep words seeds until Words = (sweep : Sweep) → ¬ (IsSweepOf words seeds until sweep)
RefusesSweep words seeds until Memory = Unit {0}

-- the same of the swept keys alone
abbrev pub RefusesSweptKeys : List (List ℕ) → PlanFault → Type 0
RefusesSweptKeys words Words = (swept_keys : List KeyValues) → ¬ (AreSweptKeys words swept_keys)
RefusesSweptKeys words Memory = Unit {0}

-- the same of one word, whose swept keys are an axis
abbrev pub RefusesAxis : List ℕ → PlanFault → Type 0
RefusesAxis word Words = (axis : List KeyValues) → ¬ (AreAxes (word ∷ []) axis)
RefusesAxis word Memory = Unit {0}

-- what stands between the plus signs of a word
abbrev pub parts_of : List ℕ → List (List ℕ)
parts_of word = slice_split (λ byte. byte == 43) word

-- the names are those of the keys, which may be set
pub record AreNames (names : List (List ℕ)) (keys : List SweptKey) : Type 0 where
  pub written : map key_name keys ≡ names
  pub known : All MaySet keys

-- the names are those of no keys, or memory was refused
abbrev pub RefusesNames : List (List ℕ) → PlanFault → Type 0
RefusesNames names Words = (keys : List SweptKey) → ¬ (AreNames names keys)
RefusesNames names Memory = Unit {0}

-- each item has so many parts, and those at the place are the values, written out; each fits
pub record AreValuesAt (of place : ℕ) (items : List (List ℕ)) (values : List SweptValue) : Type 0 where
  pub even : All (λ item. length (parts_of item) ≡ of) items
  pub written : map value_text values ≡ map (λ item. get_or (parts_of item) place []) items
  pub fit : All FitsToml values

-- the items have no such values, or memory was refused
abbrev pub RefusesValuesAt : ℕ → ℕ → List (List ℕ) → PlanFault → Type 0
RefusesValuesAt of place items Words = (values : List SweptValue) → ¬ (AreValuesAt of place items values)
RefusesValuesAt of place items Memory = Unit {0}

-- the key at a place among so many goes together with the one before it, if there is one, and has its values from the items
pub record IsColumn (of place : ℕ) (items : List (List ℕ)) (s : KeyValues) : Type 0 where
  pub goes : s.together ≡ nat_lt 0 place
  pub values : AreValuesAt of place items s.values

-- the swept keys of these first keys, of so many that go together, have their values from the items
pub record AreColumns (of : ℕ) (keys : List SweptKey) (items : List (List ℕ)) (axis : List KeyValues) : Type 0 where
  pub set : map (λ s. s.key) axis ≡ keys
  pub each : (place : ℕ) (d : KeyValues) → place < length axis → IsColumn of place items (get_or axis place d)

-- no swept keys have, or memory was refused
abbrev pub RefusesColumns : List SweptKey → List (List ℕ) → PlanFault → Type 0
RefusesColumns keys items Words = (axis : List KeyValues) → ¬ (AreColumns (length keys) keys items axis)
RefusesColumns keys items Memory = Unit {0}

-- swept keys behind others have a key that stands twice, or memory was refused
abbrev pub RefusesMore : List KeyValues → PlanFault → Type 0
RefusesMore swept_keys Words = ¬ (AreApart swept_keys)
RefusesMore swept_keys Memory = Unit {0}

-- the word asks for no seeds
abbrev pub RefusesSeeds : Option (List ℕ) → PlanFault → Type 0
RefusesSeeds word Words = (seeds : Option Seeds) → ¬ (AsksForSeeds word seeds)
RefusesSeeds word Memory = ⊥
