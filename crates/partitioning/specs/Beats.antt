-- The members in turn, in the order of their first beats.
use Rattle.std.specs.Prelude.{◌≡◌, ℕ, ◌+◌, ◌*◌, ◌<◌, ◌%◌, List, Some, slice_get}
use Rattle.std.specs.List.{range_with_len}
use Rattle.std.specs.List.Sorted.{IsNonDecreasingBy, IsPermutation}
use Rattle.streams.specs.Draw.{below_of, member_words}
use Rattle.scenario.specs.Setup.{Setup, member_count}
use Rattle.scenario.specs.Division.{Deal}

-- how late a member's first beat is: the first number that it draws
unfoldable pub first_beat : Setup → ℕ → ℕ
first_beat s m = (below_of (member_words s.seed m) s.swim.spread).0

-- the members in turn, in the order of their first beats: the member at each place of that order has the part whose turn it is
pub record AreByBeats (s : Setup) (parts : ℕ) (deal : Deal) : Type 0 where
  pub count : deal.parts ≡ parts
  pub order : List ℕ
  pub all : IsPermutation (range_with_len 0 (member_count s)) order
  pub rises : IsNonDecreasingBy (first_beat s) order
  pub turn : (m : ℕ) → m < member_count s → (place : ℕ) × (slice_get order place ≡ Some m) × (slice_get deal.part_of m ≡ Some (place % parts))

-- the first beat and the member in one number: of members with the same beat the lower number is less
abbrev pub rank_of : Setup → ℕ → ℕ
rank_of s m = first_beat s m * 65536 + m
