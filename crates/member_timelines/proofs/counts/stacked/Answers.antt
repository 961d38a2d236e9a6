use Rattle.std.proofs.Common.{◌+◌, min, slice_index}
use Rattle.member_timelines.proofs.Steps.{map_more}
use Rattle.member_timelines.proofs.counts.stacked.Goals as goal

pub loop-place-preserved : goal.loop-place-preserved
loop-place-preserved c =
    map_more (λ place. min (slice_index c.args.bases.now place + slice_index c.args.heights.now place) c.args.most) c.loop-place.place _ _ _ c.loop-place.invariant c.in_ok-push.ensures.items
    c.top.ensures
