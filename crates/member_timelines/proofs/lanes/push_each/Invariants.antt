use Rattle.std.proofs.Common.{◌≡◌, ◌++◌, take, flat_map}
use Rattle.std.specs.String.{string_bytes}
use Rattle.member_timelines.specs.LaneTable.{lane_at}
use Rattle.member_timelines.proofs.lanes.push_each.Given as goal

-- the lanes so far
abbrev pub invariant-loop-lane : goal.invariant-loop-lane
invariant-loop-lane l = string_bytes l.text ≡ string_bytes l.initial.text ++ flat_map (lane_at l.run.tick l.run.scenario.now l.run.tallies.now) (take l.lane-index l.lanes)
