-- How many threads simulate.
use Rattle.std.specs.Prelude.{◌≡◌, ℕ, ◌-◌, ◌<◌, ◌≤◌, nat_lt, if◌then◌else◌}
use Rattle.scenario.specs.Setup.{Setup}
use Rattle.scenario.specs.Division.{Deal}
use Rattle.partitioning.specs.Asked.{AreAsAsked}
use Rattle.partitioning.specs.Parts.{Divides}
use Rattle.partitioning.specs.Paying.{ArePaying}
use Rattle.partitioning.specs.Rounds.{HasMessages, IsLeastWalkOf}

-- of so many threads one writes and the others simulate; of two both do
abbrev pub simulating_of : ℕ → ℕ
simulating_of threads = if nat_lt 2 threads then threads - 1 else threads

-- the parts of a run by so many workers, of whom so many simulate: those that pay, one for each of these at most, or those that were asked for, where
-- they are more than the workers
pub record AreChosen (s : Setup) (asked : Deal) (workers hands : ℕ) (used : Deal) : Type 0 where
  pub few : asked.parts ≤ workers → Divides s hands used
  pub pay : asked.parts ≤ workers → ArePaying s asked hands used
  pub as_asked : workers < asked.parts → AreAsAsked s asked hands used

-- All threads simulate where a round of the parts for all has 400 messages, so that writing takes a processor from one of them for a small share of it;
-- else one writes.
pub record AreShares (s : Setup) (asked : Deal) (workers threads hands : ℕ) (used : Deal) : Type 0 where
  pub chosen : AreChosen s asked workers hands used
  pub all : Deal
  pub of_all : AreChosen s asked workers threads all
  pub ticks : ℕ
  pub walk : IsLeastWalkOf s all ticks
  pub long : HasMessages 400 s ticks → hands ≡ threads
  pub short : ¬ (HasMessages 400 s ticks) → hands ≡ simulating_of threads
