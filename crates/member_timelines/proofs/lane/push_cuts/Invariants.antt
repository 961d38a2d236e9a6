use Rattle.std.proofs.Common.{◌≡◌, ◌++◌, take, flat_map}
use Rattle.std.specs.String.{string_bytes}
use Rattle.member_timelines.specs.Lanes.{cut_band}
use Rattle.member_timelines.proofs.lane.push_cuts.Given as goal

-- the bands of those so far
abbrev pub invariant-loop-cut : goal.invariant-loop-cut
invariant-loop-cut l = string_bytes l.text ≡ string_bytes l.initial.text ++ flat_map (cut_band l.run.scenario.now l.group) (take l.cut-index l.cuts)
