-- The lengths of walks of one link, while the links are gone through.
use Rattle.std.specs.Prelude.{◌≡◌, ◌≢◌, ◌⊎◌, ℕ, ◌<◌, ◌≤◌, ◌^◌, Bool, true, false, List, length, slice_index_or, Option, Some}
use Rattle.scenario.specs.Setup.{Setup, member_count, group_at}
use Rattle.scenario.specs.Division.{Deal}
use Rattle.links.specs.declared.table.Links.{Links}
use Rattle.links.specs.Arrival.{AreLinksOf}
use Rattle.windows.specs.Cluster.{link_delay}
use Rattle.lookahead.specs.Least.{IsAtMost}
use Rattle.lookahead.specs.Lengths.{length_at}
use Rattle.lookahead.specs.Between.{part_number, IsDelayBetween}

-- another member before this one has its group and its part
abbrev pub HasTwinBefore : Setup → Deal → ℕ → Type 0
HasTwinBefore s deal m = (twin : ℕ) × (twin < m) × (group_at s.groups twin ≡ group_at s.groups m) × (part_number deal twin ≡ part_number deal m)

-- the links serve the scenario, the division has one part a member, and of the members that are marked each has a twin before it
pub record BelongTo (links : Links) (deal : Deal) (marks : List Bool) (s : Setup) : Type 0 where
  pub serve : AreLinksOf links s
  pub one_each : length deal.part_of ≡ member_count s
  pub twins : (m : ℕ) → slice_index_or marks m false ≡ true → HasTwinBefore s deal m

-- a pair of which the sender comes before this one's, or is the same and the receiver comes before
abbrev pub ComesBefore : ℕ → ℕ → ℕ → ℕ → Type 0
ComesBefore from to i j = (i < from) ⊎ ((i ≡ from) × (j < to))

-- Between two different parts stands the delay of a link, which is no more than that of any link of the pairs of members
-- that come before this pair; it is 2^20 at most. Of these pairs' receivers the parts are among so many.
pub record AreDirectUpTo (parts : ℕ) (s : Setup) (division : ℕ → ℕ) (from to : ℕ) (lengths : List (Option ℕ)) : Type 0 where
  pub found : (p q n : ℕ) → p < 64 → q < 64 → length_at lengths p q ≡ Some n → (p ≢ q) × IsDelayBetween s division p q n
  pub short : (p q n : ℕ) → p < 64 → q < 64 → length_at lengths p q ≡ Some n → n ≤ 2 ^ 20
  pub few : (i j : ℕ) → ComesBefore from to i j → j < member_count s → division j < parts
  pub lies : (i j : ℕ) → ComesBefore from to i j → j < member_count s → division i ≢ division j → IsAtMost (length_at lengths (division i) (division j)) (link_delay s i j)
