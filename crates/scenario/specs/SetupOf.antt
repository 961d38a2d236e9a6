-- What a `Scenario` stands for.
use Rattle.std.specs.Prelude.{◌≡◌, ℕ, map, string_bytes}
use Rattle.std.specs.List.{range_with_len, AllZip}
use Rattle.scenario.specs.Setup.{Setup, Group, group_at, member_count, member_names, is_paused, is_blocked, script_of, IsSound}
use Rattle.scenario.specs.Spells.{is_in_any}
use Rattle.scenario.specs.Naps.{naps_at, AreNoted}
use Rattle.scenario.specs.Scripts.{script_at}
use Rattle.scenario.specs.Labels.{IsLabelOf}
use Rattle.scenario.specs.declared.settings.Group.{Group as Stored}
use Rattle.scenario.specs.declared.scenario.Contents.{Contents}
use Rattle.scenario.specs.declared.scenario.Scenario.TheInside.{Inside}

-- a group as it is stored
abbrev pub group_of : Stored → Group
group_of g = record { name = string_bytes g.name; count = g.count; start = g.start; contact = g.contact }

-- what contents say
abbrev pub setup_in : Contents → Setup
setup_in s = record { version = s.version; seed = s.seed; end = s.end; swim = s.swim; suspicion = s.suspicion; lifeguard = s.lifeguard; link = s.link; groups = map group_of s.groups.items; paths = s.paths.items; slows = s.slows.items; crashes = s.crashes.items; leaves = s.leaves.items; cuts = s.cuts.items; gossip = s.gossip; stream = s.stream; pauses = s.pauses.items; restarts = s.restarts.items; blocks = s.blocks.items; queue = s.queue; dial = s.dial; serf = s.serf }

abbrev pub setup_of : Inside → Setup
setup_of s = setup_in s.contents

-- the names are those of all members, at their numbers, the numbers are in their ranges, the tables give each member's group, when it is paused, when it is blocked, its script and its label, and the calendar tells of each pause
pub record IsScenario (s : Inside) : Type 0 where
  pub names : map string_bytes s.contents.names.items ≡ member_names (setup_of s)
  pub sound : IsSound (setup_of s)
  pub numbers : s.numbers.items ≡ map (group_at (setup_of s).groups) (range_with_len 0 (member_count (setup_of s)))
  pub naps : (m t : ℕ) → is_in_any (naps_at s.naps.items m) t ≡ is_paused (setup_of s) m t
  pub calendar : AreNoted s.calendar s.naps.items
  pub stops : (m t : ℕ) → is_in_any (naps_at s.stops.items m) t ≡ is_blocked (setup_of s) m t
  pub labels : AllZip IsLabelOf (member_names (setup_of s)) s.labels.items
  pub scripts : (m : ℕ) → script_at s.scripts.items m ≡ script_of (setup_of s) m
