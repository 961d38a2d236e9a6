use Rattle.std.proofs.Common.{length-set, sym, arith}
use Rattle.piggyback.proofs.Merging.{merged_sent, merged_next, within_from}
use Rattle.piggyback.proofs.front.merge.Goals as goal
use Rattle.piggyback.proofs.front.merge.Goals.{then-comes_first, else-comes_first}

pub loop-place-preserved : goal.loop-place-preserved
loop-place-preserved c =
    let so_far = c.loop-place.invariant in
    elim c.if-comes_first.branch [
      | then-comes_first w ↦
          rw (w.entries-is, w.done-is) (record {
            some = omega (arith, so_far.some, c.if-done-sent.false);
            fits = omega (arith, so_far.fits, length-set c.loop-place.entries c.loop-place.place w.index-sent-done-then-comes_first.result);
            rest = merged_sent c.loop-place.entries c.args.sent.now _ c.loop-place.place _ c.loop-place.done _ c.index-sent-done.result w.index-sent-done-then-comes_first.result
                (omega (arith, so_far.some, c.if-done-sent.false)) (omega (arith, so_far.some, c.if-done-sent.false)) (omega (arith, c.loop-place-test.true, c.loop-place.auto.entries)) (omega (arith, so_far.some, c.if-done-sent.false))
                c.index-sent-done.is w.index-sent-done-then-comes_first.is c.requires.ordered w.if-comes_first.ensures so_far.rest;
          })
      | else-comes_first w ↦
          rw (w.entries-is, w.done-is) (record {
            some = so_far.some;
            fits = omega (arith, so_far.fits, so_far.some, c.if-done-sent.false, within_from c.index-sent-done.result c.loop-place.entries _ (sym w.if-comes_first.ensures), length-set c.loop-place.entries c.loop-place.place w.index-entries-next.result);
            rest = merged_next c.loop-place.entries c.args.sent.now _ c.loop-place.place _ c.loop-place.done _ c.index-sent-done.result w.index-entries-next.result
                (omega (arith, so_far.some, c.if-done-sent.false)) (omega (arith, so_far.some, c.if-done-sent.false)) (omega (arith, so_far.some, c.if-done-sent.false))
                c.index-sent-done.is w.index-entries-next.is c.requires.ordered w.if-comes_first.ensures so_far.rest;
          })
    ]
