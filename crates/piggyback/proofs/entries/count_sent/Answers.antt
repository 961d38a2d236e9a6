use Rattle.std.proofs.Common.{ltb, ap, ◌∙◌, arith}
use Rattle.std.specs.Option.{option_and_then}
use Rattle.piggyback.specs.Picked.{Counted}
use Rattle.piggyback.specs.Keyed.{found_of, is_in_order}
use Rattle.piggyback.proofs.Sending.{order_is, order_test, differ_in_order, in_order-filter, found-filter, if_passes}
use Rattle.piggyback.proofs.Counting.{sent_kept}
use Rattle.piggyback.proofs.entries.count_sent.Goals as goal

pub returns : goal.returns
returns c =
    let below = λ (it : Counted). ltb it.1 c.args.limit in
    let kept = c.drop_sent.ensures in
    let counted = c.count_each.ensures in
    let inside = order_is c.count_each.new.entries.items counted.ordered in
    record {
      ordered = ap is_in_order kept ∙ order_test _ (in_order-filter below _ inside);
      stands = λ subject.
          ap (found_of subject) kept
          ∙ found-filter below subject _ (differ_in_order _ inside)
          ∙ ap (option_and_then (if_passes below)) (counted.counted subject)
          ∙ sent_kept c.args.updates.now c.args.limit (omega arith) (found_of subject c.args.entries.now.items);
    }
