use Rattle.std.proofs.Common.{◌≡◌, ◌++◌, take, flat_map}
use Rattle.std.specs.String.{string_bytes}
use Rattle.member_timelines.specs.Lanes.{slow_band}
use Rattle.member_timelines.proofs.lane.push_slows.Given as goal

-- the bands of those so far
abbrev pub invariant-loop-slow : goal.invariant-loop-slow
invariant-loop-slow l = string_bytes l.text ≡ string_bytes l.initial.text ++ flat_map (slow_band l.run.scenario.now l.member) (take l.slow-index l.slows)
