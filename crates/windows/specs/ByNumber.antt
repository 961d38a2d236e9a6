-- Members by their numbers: they stand side by side, and a table says where.
use Rattle.std.specs.Prelude.{◌≡◌, ℕ, ◌+◌, ◌<◌, List, [], ◌∷◌, Option, Some, None, map, length, slice_get, slice_set, slice_index_or, option_and_then, option_map}
use Rattle.std.specs.Ordering.{nat_cmp}
use Rattle.std.specs.FinMap.{FinMap, from_entries, get, insert}
use Rattle.member.specs.declared.member.Member.{Member}
use Rattle.member.specs.State.{State}
use Rattle.member.specs.StateOf.{state_of}

-- the states of those members that are there, by their places, which are counted from this one
abbrev pub states_from : ℕ → List (Option Member) → List (ℕ × State)
states_from place [] = []
states_from place (None ∷ slots) = states_from (place + 1) slots
states_from place (Some member ∷ slots) = (place, state_of member) ∷ states_from (place + 1) slots

-- where the member of a number stands, if a table says so
abbrev pub place_at : List (Option ℕ) → ℕ → Option ℕ
place_at places number = slice_index_or places number None

-- who stands at a place, if one is given
abbrev pub standing : List Member → Option ℕ → Option Member
standing members place = option_and_then (slice_get members) place

-- members by their numbers: in order where no table says where they stand
abbrev pub by_number : List (Option ℕ) → List Member → List (Option Member)
by_number [] members = map (λ member. Some member) members
by_number (place ∷ places) members = map (standing members) (place ∷ places)

-- the states of members by their numbers
abbrev pub states_of : List (Option ℕ) → List Member → FinMap nat_cmp State
states_of places members = from_entries (states_from 0 (by_number places members))

-- the member of a number stands at a place: whoever is written there has the number
pub record StandsAt (places : List (Option ℕ)) (members : List Member) (number place : ℕ) : Type 0 where
  pub within : place < length members
  pub there : get (states_of places members) number ≡ option_map state_of (slice_get members place)
  pub put : (member : Member) → states_of places (slice_set members place member) ≡ insert (states_of places members) number (state_of member)

-- where the member of a number stands, if there is one
abbrev pub IsPlaceOf : List (Option ℕ) → List Member → ℕ → Option ℕ → Type 0
IsPlaceOf places members number None = get (states_of places members) number ≡ None
IsPlaceOf places members number (Some place) = StandsAt places members number place
