use Rattle.std.proofs.Common.{◌≡◌, ◌++◌, flat_map}
use Rattle.std.specs.String.{string_bytes}
use Rattle.std.specs.List.{range_with_len}
use Rattle.member_timelines.specs.Lanes.{refute_dot}
use Rattle.member_timelines.proofs.lane.push_refutes.Given as goal

-- the marks of the spans so far
abbrev pub invariant-loop-span : goal.invariant-loop-span
invariant-loop-span l = string_bytes l.text ≡ string_bytes l.initial.text ++ flat_map (refute_dot l.run.scenario.now l.run.tallies.now l.member) (range_with_len 0 l.span)
