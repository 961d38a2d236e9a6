use Rattle.piggyback.proofs.Counting.{counted_more}
use Rattle.piggyback.proofs.entries.count_by_subject.Goals as goal

pub loop-update-preserved : goal.loop-update-preserved
loop-update-preserved c = record {
  ordered = c.count_one.ensures.ordered;
  counted = counted_more c.args.updates.now c.loop-update.update-index c.update-item.result c.loop-update-test.true c.update-item.is c.args.entries.now.items c.loop-update.entries.items c.count_one.new.entries.items c.requires.once c.loop-update.invariant.counted c.count_one.ensures.counted;
}
