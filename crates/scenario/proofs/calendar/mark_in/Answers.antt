use Rattle.std.proofs.Common.{◌<◌, length, arith}
use Rattle.scenario.proofs.Noting.{made_same, made_noted, made_kept}
use Rattle.scenario.proofs.calendar.mark_in.Goals as goal

pub loop-place-preserved : goal.loop-place-preserved
loop-place-preserved c =
    let start = c.args.owners.now.items in
    let old = c.loop-place.owners.items in
    let k = c.loop-place.place in
    let x = c.index.result.now in
    let bit = c.bit_of-bit.result in
    let kept = c.loop-place.invariant in
    let within : k < length old = omega (arith, c.loop-place-test.true, c.min-end.ensures, c.len.ensures, kept.same) in
    record {
      same = made_same start old c.args.first k c.args.owner x bit within c.index.ensures c.bit_of-bit.ensures kept.same kept.noted kept.kept;
      noted = made_noted start old c.args.first k c.args.owner x bit within c.index.ensures c.bit_of-bit.ensures kept.same kept.noted kept.kept;
      kept = made_kept start old c.args.first k c.args.owner x bit within c.index.ensures c.bit_of-bit.ensures kept.same kept.noted kept.kept;
    }
