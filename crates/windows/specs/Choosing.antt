-- One choice of a member, as a part that owns everybody makes it.
use Rattle.std.specs.Prelude.{◌≡◌, ℕ, ◌+◌, ◌++◌, Bool, cond, min, List, length, Option, Some, None}
use Rattle.base.specs.declared.key.Key.{Key}
use Rattle.scenario.specs.Setup.{Setup}
use Rattle.trace.specs.declared.row.Row.{Row}
use Rattle.member.specs.Opening.{opening}
use Rattle.member.specs.Step.{step}
use Rattle.member_laws.specs.Runs.{Cluster}
use Rattle.windows.specs.Safe.{IsSafe}
use Rattle.windows.specs.Play.{Chooses, Plays}

-- The moment before which a member's next event is safe, where this is the least moment that pends.
abbrev pub safe_bound : ℕ → Option ℕ → ℕ → ℕ
safe_bound end None least = end + 1
safe_bound end (Some delay) least = min (least + delay) (end + 1)

-- some choices lead from the beginning of the scenario to this cluster
abbrev pub IsPlayed : Setup → Option ℕ → Cluster → Type 0
IsPlayed s least_delay w = (choices : List ℕ) × (keys : List Key) × (rows : List Row) × Plays s least_delay (opening s) choices keys rows w

-- the member was chosen, and its event's rows, where it handled one, follow those before
pub record HasChosen (s : Setup) (least_delay : Option ℕ) (m : ℕ) (went : Bool) (w v : Cluster) (before after : List Row) : Type 0 where
  pub keys : List Key
  pub made : List Row
  pub chosen : Chooses (step s) (IsSafe s.end least_delay) w m keys made v
  pub counted : length keys ≡ cond went 1 0
  pub rows : after ≡ before ++ made

-- these choices lead to this cluster, with these rows; so many of them handled an event
pub record HasPlayed (s : Setup) (least_delay : Option ℕ) (choices : List ℕ) (handled : ℕ) (rows : List Row) (w : Cluster) : Type 0 where
  pub keys : List Key
  pub plays : Plays s least_delay (opening s) choices keys rows w
  pub counted : handled ≡ length keys
