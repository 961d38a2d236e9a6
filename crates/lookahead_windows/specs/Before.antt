-- How far a run has come by a moment: the world in which just its events before the moment have been handled, and the
-- rows that they wrote.
use Rattle.std.specs.Prelude.{ℕ, ◌<◌, List}
use Rattle.std.specs.List.{AllByRecursion}
use Rattle.base.specs.declared.key.Key.{Key}
use Rattle.base.specs.World.{Run}
use Rattle.scenario.specs.Setup.{Setup}
use Rattle.trace.specs.declared.row.Row.{Row}
use Rattle.worker_queue.specs.Queue.{NoneIsBelow}
use Rattle.member.specs.Opening.{opening}
use Rattle.member.specs.Step.{step}
use Rattle.member_laws.specs.Runs.{Cluster}

-- The scenario's run up to a moment: from the opening it handles these events, which are before the moment, and writes
-- these rows. In the world to which that leads, nothing pends before the moment.
pub record RunsBefore (s : Setup) (t : ℕ) (keys : List Key) (rows : List Row) (w : Cluster) : Type 0 where
  pub run : Run (step s) s.end (opening s) keys rows w
  pub early : AllByRecursion (λ (k : Key). k.at < t) keys
  pub none : NoneIsBelow w.pending t

-- the world in which the run's events before the moment have been handled, and no other
abbrev pub IsWorldBefore : Setup → ℕ → Cluster → Type 0
IsWorldBefore s t w = (keys : List Key) × (rows : List Row) × RunsBefore s t keys rows w

-- the rows that the run writes before the moment
abbrev pub AreRowsBefore : Setup → ℕ → List Row → Type 0
AreRowsBefore s t rows = (keys : List Key) × (w : Cluster) × RunsBefore s t keys rows w
