-- The places of restarts, as they are kept.
use Rattle.std.specs.Prelude.{◌≡◌, ◌<◌, ℕ, Bool, false, ◌==◌, List, [], Vec, length, take, get_or, slice_get}
use Rattle.std.specs.Option.{option_map_or}
use Rattle.std.specs.List.{list_any}
use Rattle.std.specs.declared.alloc.Global.{Global}
use Rattle.incidents.specs.declared.open_places.OpenPlaces.{OpenPlaces}

-- the places of a member among those of all
abbrev pub places_in : List (Vec ℕ Global) → ℕ → List ℕ
places_in all m = option_map_or (λ places. places.items) (slice_get all m) []

-- the places of a member's restarts whose lives go on
abbrev pub places_of : OpenPlaces → ℕ → List ℕ
places_of kept m = places_in kept.of_members.items m

-- a place is among these
abbrev pub is_among : ℕ → List ℕ → Bool
is_among k places = list_any (λ place. place == k) places

-- each of the places is below a bound, and none stands twice
pub record ArePlaces (bound : ℕ) (places : List ℕ) : Type 0 where
  pub low : (i d : ℕ) → i < length places → get_or places i d < bound
  pub apart : (i d : ℕ) → i < length places → is_among (get_or places i d) (take i places) ≡ false
