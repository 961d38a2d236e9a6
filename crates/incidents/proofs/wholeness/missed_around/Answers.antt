use Rattle.std.proofs.Common.{◌∙◌, sym, ap, arith}
use Rattle.incidents.specs.Kept.{count_of}
use Rattle.incidents.specs.Lives.{weight}
use Rattle.incidents.specs.Missed.{misses_in}
use Rattle.incidents.proofs.Sums.{around_more}
use Rattle.incidents.proofs.Wholes.{none_around}
use Rattle.incidents.proofs.wholeness.missed_around.Goals as goal

pub returns-then-not-is_up : goal.returns-then-not-is_up
returns-then-not-is_up c =
    none_around c.args.odd.now c.args.cluster.now c.args.lives.now (count_of c.args.cluster.now) c.args.member (sym c.is_up.ensures ∙ c.if-not-is_up.true)

pub loop-place-preserved : goal.loop-place-preserved
loop-place-preserved c = record {
  few = omega (arith, c.weight-missed.ensures.small, c.weight-missed-in-loop-place.ensures.small, c.loop-place.invariant.few);
  counted =
      around_more (misses_in c.args.odd.now c.args.cluster.now c.args.lives.now) c.args.member c.loop-place.place c.loop-place.missed _ _ c.loop-place.invariant.counted
      (c.weight-missed.ensures.value ∙ ap weight c.misses.ensures) (c.weight-missed-in-loop-place.ensures.value ∙ ap weight c.misses-in-loop-place.ensures);
}
