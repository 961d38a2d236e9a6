-- Calendars: what is known of the owners' times without a search.
use Rattle.std.specs.Prelude.{◌≡◌, ℕ, ◌/◌, ◌%◌, ◌^◌, Bool, true, ◌||◌, nat_eq, bit_and, List, get_or}
use Rattle.std.specs.Option.{option_map_or}
use Rattle.std.specs.List.{slice_get}

-- time is cut into stretches of two to the power of so many ticks, and of each of the first ones is known which owners have a time in it
pub record Stretches : Type 0 where
  pub shift : ℕ
  pub owners : List ℕ
  -- the bits of those of whom nothing is known
  pub unknown : ℕ

-- the bit of an owner's number
abbrev pub bit_of : ℕ → ℕ
bit_of owner = 2 ^ (owner % 64)

abbrev pub is_noted : ℕ → ℕ → Bool
is_noted owners bit = nat_eq (bit_and owners bit) bit

-- the owner's bit is set in the stretch of this number
abbrev pub HasNoted : List ℕ → ℕ → ℕ → Type 0
HasNoted owners k owner = bit_and (get_or owners k 0) (bit_of owner) ≡ bit_of owner

-- the owner may have a time at the moment: the bit of its number is set in the moment's stretch, or nothing is known of the owner, or there is no such stretch
unfoldable pub may_be_in : Stretches → ℕ → ℕ → Bool
may_be_in c owner t = option_map_or (λ owners. is_noted owners (bit_of owner) || is_noted c.unknown (bit_of owner)) (slice_get c.owners (t / 2 ^ c.shift)) true
