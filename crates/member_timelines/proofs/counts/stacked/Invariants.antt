use Rattle.std.proofs.Common.{◌≡◌, ◌+◌, map, min, slice_index}
use Rattle.std.specs.List.{range_with_len}
use Rattle.member_timelines.proofs.counts.stacked.Given as goal

-- the tops so far
abbrev pub invariant-loop-place : goal.invariant-loop-place
invariant-loop-place l = l.tops.items ≡ map (λ place. min (slice_index l.bases place + slice_index l.heights place) l.most) (range_with_len 0 l.place)
