use Rattle.std.proofs.Common.{◌≡◌, ◌++◌, take, flat_map}
use Rattle.std.specs.String.{string_bytes}
use Rattle.member_timelines.specs.ThrownOut.{row_of}
use Rattle.member_timelines.proofs.thrown_out.push_rows.Given as goal

-- the rows so far
abbrev pub invariant-loop-lane : goal.invariant-loop-lane
invariant-loop-lane l = string_bytes l.text ≡ string_bytes l.initial.text ++ flat_map (row_of l.run.tick l.run.scenario.now l.run.tallies.now) (take l.lane-index l.lanes)
