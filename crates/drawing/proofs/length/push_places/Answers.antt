use Rattle.std.proofs.Common.{arith}
use Rattle.drawing.proofs.Lengths.{places_more, places_end}
use Rattle.drawing.proofs.length.push_places.Goals as goal

pub loop-place-preserved : goal.loop-place-preserved
loop-place-preserved c = record {
  all = places_more c.loop-place.place c.loop-place.part c.args.unit _ _ _ (omega (arith, c.loop-place-test.true)) c.loop-place.invariant.all c.in_ok-push_digit.ensures;
  below = omega (arith, c.loop-place.invariant.below);
}

pub returns : goal.returns
returns c = places_end c.loop-place.place c.loop-place.part c.args.unit _ _ (omega (arith, c.loop-place-test.false)) c.loop-place.invariant.all
