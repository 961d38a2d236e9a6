use Rattle.piggyback.proofs.Merging.{begun_more}
use Rattle.piggyback.proofs.front.begin_with.Goals as goal

pub loop-place-preserved : goal.loop-place-preserved
loop-place-preserved c =
    begun_more c.args.updates.now c.args.entries.now c.loop-place.place c.index-updates-place.result _ c.loop-place-test.true c.index-updates-place.is c.if-not-stands_at.ensures c.loop-place.invariant
