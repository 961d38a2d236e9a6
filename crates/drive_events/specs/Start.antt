-- What the line of a start holds.
use Rattle.std.specs.Prelude.{ℕ, ◌-◌, Bool, true, false, nat_eq, List, [], ◌∷◌, ◌++◌, flat_map, filter, slice_get, codes, decimal, Option, Some, None}
use Rattle.std.specs.List.{range_with_len}
use Rattle.std.specs.Option.{option_and_then}
use Rattle.base.specs.declared.key.Key.{Key}
use Rattle.scenario.specs.Setup.{Setup, member_count, name_of, start_of, contact_of, script_of}
use Rattle.scenario.specs.Script.{asked_by}

-- members are numbered from 0
abbrev pub numbers : Setup → List ℕ
numbers s = range_with_len 0 (member_count s)

-- a member that starts at moment 0
abbrev pub is_founder : Setup → ℕ → Bool
is_founder s m = nat_eq (start_of s m) 0

-- the first name of a list, behind its bracket: a name has no letter that JSON would escape
unfoldable pub first_name : Setup → ℕ → List ℕ
first_name s m = codes "[\"" ++ name_of s m ++ codes "\""

-- a later name, behind a comma
unfoldable pub later_name : Setup → ℕ → List ℕ
later_name s m = codes ",\"" ++ name_of s m ++ codes "\""

-- the list of their names
unfoldable pub names_text : Setup → List ℕ → List ℕ
names_text s [] = codes "[]"
names_text s (m ∷ ms) = first_name s m ++ flat_map (later_name s) ms ++ codes "]"

-- the member's place among all, and the scenario's seed: by both a harness may make the member's chance
unfoldable pub place_text : ℕ → ℕ → List ℕ
place_text index seed = codes "start\",\"index\":" ++ decimal index ++ codes ",\"seed\":" ++ decimal seed

-- all members
unfoldable pub members_text : Setup → List ℕ
members_text s = codes ",\"members\":" ++ names_text s (numbers s)

-- those that start at moment 0
unfoldable pub founders_text : Setup → List ℕ
founders_text s = codes ",\"founders\":" ++ names_text s (filter (is_founder s) (numbers s))

-- both stand in the first line of a drive
abbrev pub first_text : Setup → Bool → List ℕ
first_text s false = []
first_text s true = members_text s ++ founders_text s

-- whom a member that starts later asks to let it join
unfoldable pub contact_name : List ℕ → List ℕ
contact_name name = codes ",\"contact\":\"" ++ name ++ codes "\""

abbrev pub contact_text : Setup → Option ℕ → List ℕ
contact_text s None = []
contact_text s (Some contact) = contact_name (name_of s contact)

-- a process of the member, which asks this contact
unfoldable pub process_text : Setup → Bool → ℕ → Option ℕ → List ℕ
process_text s is_first m contact = place_text m s.seed ++ first_text s is_first ++ contact_text s contact

abbrev pub start_text : Setup → Bool → ℕ → List ℕ
start_text s is_first m = process_text s is_first m (contact_of s m)

-- whom a member asks that starts again by this event of its script
abbrev pub restart_contact : Setup → Key → Option ℕ
restart_contact s k = option_and_then (λ e. asked_by e.kind) (slice_get (script_of s k.to) (k.number - 1))

-- a process that isn't the first one of its member
unfoldable pub restart_text : Setup → Bool → Key → List ℕ
restart_text s is_first k = process_text s is_first k.to (restart_contact s k) ++ codes ",\"again\":true"
