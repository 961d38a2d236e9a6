-- What of a scenario incidents ask.
use Rattle.std.specs.Prelude.{◌≡◌, ◌+◌, ℕ, Bool, ◌==◌, List, ◌++◌, map}
use Rattle.scenario.specs.Setup.{Setup, member_count, start_of}
use Rattle.scenario.specs.declared.settings.Slow.{Slow}
use Rattle.scenario.specs.declared.settings.Pause.{Pause}
use Rattle.suspicion.specs.Settings.{terms_of}
use Rattle.suspicion.specs.Times.{max_timeout}
use Rattle.incidents.specs.declared.cluster.Trouble.{Trouble}
use Rattle.incidents.specs.declared.cluster.Cluster.{Cluster}
use Rattle.incidents.specs.Lives.{members}

-- the member starts at moment 0
abbrev pub starts_first : Setup → ℕ → Bool
starts_first s m = start_of s m == 0

abbrev pub slow_trouble : Slow → Trouble
slow_trouble e = record { member = e.member; from = e.from; until = e.until }

abbrev pub pause_trouble : Pause → Trouble
pause_trouble e = record { member = e.member; from = e.from; until = e.until }

-- whether each member starts at moment 0
abbrev pub founders_of : Setup → List Bool
founders_of s = map (starts_first s) (members (member_count s))

-- when members are slow, paused or blocked
abbrev pub troubles_of : Setup → List Trouble
troubles_of s = map slow_trouble s.slows ++ map pause_trouble s.pauses ++ map pause_trouble s.blocks

-- the longest suspicion of the whole cluster, and a period
abbrev pub reach_of : Setup → ℕ
reach_of s = max_timeout (terms_of s) (member_count s) + s.swim.period

-- the cluster is the scenario's
pub record IsClusterOf (cluster : Cluster) (s : Setup) : Type 0 where
  pub founders : cluster.founders.items ≡ founders_of s
  pub troubles : cluster.troubles.items ≡ troubles_of s
  pub reach : cluster.reach ≡ reach_of s

-- both clusters are one
pub record IsSameCluster (a b : Cluster) : Type 0 where
  pub founders : a.founders.items ≡ b.founders.items
  pub troubles : a.troubles.items ≡ b.troubles.items
  pub reach : a.reach ≡ b.reach
