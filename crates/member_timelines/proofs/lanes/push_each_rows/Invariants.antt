use Rattle.std.proofs.Common.{◌≡◌, ◌++◌, take, flat_map}
use Rattle.std.specs.String.{string_bytes}
use Rattle.member_timelines.specs.LaneTable.{member_rows}
use Rattle.member_timelines.proofs.lanes.push_each_rows.Given as goal

-- the rows of the lanes so far
abbrev pub invariant-loop-lane : goal.invariant-loop-lane
invariant-loop-lane l = string_bytes l.text ≡ string_bytes l.initial.text ++ flat_map (λ lane. member_rows l.run.tick l.run.scenario.now l.run.tallies.now lane.member) (take l.lane-index l.lanes)
