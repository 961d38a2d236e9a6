-- Pairs of members, as the sets in which they are kept say.
use Rattle.std.specs.Prelude.{ℕ, Bool, false, List, ◌&&◌, ◌==◌, slice_get, if◌then◌else◌}
use Rattle.std.specs.Option.{option_map_or}
use Rattle.std.specs.Ordering.{nat_cmp}
use Rattle.std.specs.BTreeSet.{BTreeSet, contains}
use Rattle.incidents.specs.declared.pairs.Pairs.{Pairs}

-- the pair is in these columns
abbrev pub has_in : List (BTreeSet ℕ) → ℕ → ℕ → Bool
has_in columns a b = option_map_or (λ column. contains nat_cmp column a) (slice_get columns b) false

-- the pair is there
abbrev pub has : Pairs → ℕ → ℕ → Bool
has pairs a b = has_in pairs.columns.items a b

-- the same pairs, but this one, which is there or isn't
abbrev pub has_with : ℕ → ℕ → Bool → (ℕ → ℕ → Bool) → ℕ → ℕ → Bool
has_with first second is_in pairs a b = if (first == a) && (second == b) then is_in else pairs a b

-- the same pairs, but those of this first member
abbrev pub has_without : ℕ → (ℕ → ℕ → Bool) → ℕ → ℕ → Bool
has_without first pairs a b = if first == a then false else pairs a b
