-- Names of items that were seen, and one more.
use Rattle.std.specs.Prelude.{ℕ, List, [], ◌∷◌, Bool, false, map, Option, Some, None, String, string_bytes}
use Rattle.std.specs.declared.alloc.Global.{Global}
use Rattle.std.specs.List.{list_any}
use Rattle.std.specs.Str.{bytes_eq}

-- the bytes of names
abbrev pub words : List (String Global) → List (List ℕ)
words names = map string_bytes names

-- a name that is there is one of these
abbrev pub is_among : List (List ℕ) → Option (List ℕ) → Bool
is_among names (Some name) = list_any (bytes_eq name) names
is_among names None = false

-- a name that is there, as a list
abbrev pub name_or_none : Option (List ℕ) → List (List ℕ)
name_or_none (Some name) = name ∷ []
name_or_none None = []
