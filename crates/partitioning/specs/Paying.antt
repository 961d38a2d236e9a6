-- Which parts a run has where no more were asked for than there are workers: those that are likely to take the least time.
use Rattle.std.specs.Prelude.{◌≡◌, ℕ, ◌+◌, ◌<◌, ◌≤◌, ◌⊎◌, List, [], ◌∷◌}
use Rattle.std.specs.List.{AllByRecursion, Contains}
use Rattle.scenario.specs.Setup.{Setup, member_count}
use Rattle.scenario.specs.Division.{Deal, in_turn}
use Rattle.partitioning.specs.Beats.{AreByBeats}
use Rattle.partitioning.specs.Parts.{IsFolded}
use Rattle.partitioning.specs.Rounds.{IsLongRound, IsLeastWalkOf}
use Rattle.partitioning.specs.Sites.{AreSites}

-- a round of these parts has fewer ticks than so many
abbrev pub LastsBelow : Setup → ℕ → Deal → Type 0
LastsBelow s limit deal = (ticks : ℕ) × IsLeastWalkOf s deal ticks × (ticks < limit)

-- all members as one part, since the rounds of no candidate have so many ticks
pub record AreOne (s : Setup) (long : ℕ) (candidates : List Deal) (used : Deal) : Type 0 where
  pub one : used ≡ in_turn (member_count s) 1
  pub short : AllByRecursion (LastsBelow s long) candidates

-- one of the candidates, whose rounds have so many ticks, and no fewer than those of any other
pub record AreLongest (s : Setup) (long : ℕ) (candidates : List Deal) (used : Deal) : Type 0 where
  pub among : Contains candidates used
  pub ticks : ℕ
  pub walk : IsLeastWalkOf s used ticks
  pub worth : long ≤ ticks
  pub most : AllByRecursion (LastsBelow s (ticks + 1)) candidates

-- of two divisions the one with the longer rounds, where those of the first count as so many ticks; where they are as long the second
abbrev pub TakesLonger : Setup → Deal → ℕ → Deal → Deal → ℕ → Type 0
TakesLonger s first least second taken ticks =
    (rounds : ℕ) × IsLeastWalkOf s second rounds × (((rounds < least) × (taken ≡ first) × (ticks ≡ least)) ⊎ ((least ≤ rounds) × (taken ≡ second) × (ticks ≡ rounds)))

-- The parts with the longest rounds, of these: those that were asked for, the cluster's sites, both put together into one for each of so many hands, and the members in turn in the order of their first beats.
-- All members are one part where no such rounds have six messages.
pub record ArePaying (s : Setup) (asked : Deal) (hands : ℕ) (used : Deal) : Type 0 where
  pub long : ℕ
  pub enough : IsLongRound s long
  pub given : Deal
  pub of_asked : IsFolded asked hands given
  pub sites : Deal
  pub of_cluster : AreSites s long sites.part_of
  pub near : Deal
  pub of_sites : IsFolded sites hands near
  pub turns : Deal
  pub in_order : AreByBeats s hands turns
  pub best : AreOne s long (turns ∷ near ∷ given ∷ []) used ⊎ AreLongest s long (turns ∷ near ∷ given ∷ []) used
