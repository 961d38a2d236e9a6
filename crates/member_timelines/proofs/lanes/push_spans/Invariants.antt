use Rattle.std.proofs.Common.{◌≡◌, ◌++◌, flat_map}
use Rattle.std.specs.String.{string_bytes}
use Rattle.std.specs.List.{range_with_len}
use Rattle.member_timelines.specs.LaneTable.{span_row}
use Rattle.member_timelines.proofs.lanes.push_spans.Given as goal

-- the rows of the spans so far
abbrev pub invariant-loop-span : goal.invariant-loop-span
invariant-loop-span l = string_bytes l.text ≡ string_bytes l.initial.text ++ flat_map (span_row l.time l.name l.width l.suspected l.dead) (range_with_len 0 l.span)
