-- Which parts a run has where some were asked for.
use Rattle.std.specs.Prelude.{◌≡◌, ℕ, ◌-◌, ◌/◌, ◌<◌, ◌≤◌}
use Rattle.scenario.specs.Setup.{Setup}
use Rattle.scenario.specs.Division.{Deal}
use Rattle.partitioning.specs.Parts.{IsFolded, PutsTogether}
use Rattle.partitioning.specs.Rounds.{IsLongRound, IsLeastWalkOf}

-- the share of each message in so many ticks, where each of so many parts sends each other one
abbrev pub ticks_of_a_word : ℕ → ℕ → ℕ
ticks_of_a_word ticks parts = ticks / parts / (parts - 1)

-- the parts of a division put together into as many as there are hands, where a round of these has so many ticks at least, else into one
pub record AreFewer (s : Setup) (asked : Deal) (hands long : ℕ) (used : Deal) : Type 0 where
  pub together : Deal
  pub folded : IsFolded asked hands together
  pub ticks : ℕ
  pub walk : IsLeastWalkOf s together ticks
  pub worth : long ≤ ticks → used ≡ together
  pub whole : ticks < long → used.parts ≡ 1

-- the parts that were asked for, where each word of a round has as many ticks as a round must have, else fewer that join them
pub record AreAsAsked (s : Setup) (asked : Deal) (hands : ℕ) (used : Deal) : Type 0 where
  pub long : ℕ
  pub enough : IsLongRound s long
  pub ticks : ℕ
  pub walk : IsLeastWalkOf s asked ticks
  pub kept : long ≤ ticks_of_a_word ticks asked.parts → used ≡ asked
  pub joined : PutsTogether asked used
  pub fewer : ticks_of_a_word ticks asked.parts < long → AreFewer s asked hands long used
