use Rattle.std.proofs.Common.{◌≡◌, ◌++◌, take, flat_map}
use Rattle.std.specs.String.{string_bytes}
use Rattle.member_timelines.specs.Lanes.{pause_band}
use Rattle.member_timelines.proofs.lane.push_pauses.Given as goal

-- the bands of those so far
abbrev pub invariant-loop-pause : goal.invariant-loop-pause
invariant-loop-pause l = string_bytes l.text ≡ string_bytes l.initial.text ++ flat_map (pause_band l.run.scenario.now l.member) (take l.pause-index l.pauses)
