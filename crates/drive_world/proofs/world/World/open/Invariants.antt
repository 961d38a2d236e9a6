use Rattle.std.proofs.Common.{◌≡◌, flat_map}
use Rattle.std.specs.List.{range_with_len}
use Rattle.std.specs.FinMap.{empty}
use Rattle.base.specs.World.{with_events}
use Rattle.scenario.specs.Profile.{profile_of}
use Rattle.drive_process.specs.Driven.{script_by}
use Rattle.drive_world.specs.WorldOf.{events_in}
use Rattle.drive_world.proofs.world.World.open.Given as goal

-- what the script has for the members so far pends
abbrev pub invariant-loop-number : goal.invariant-loop-number
invariant-loop-number l = events_in l.pending ≡ with_events empty (flat_map (script_by (profile_of l.scenario) l.scenario) (range_with_len 0 l.number))
