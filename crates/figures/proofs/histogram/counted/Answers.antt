use Rattle.std.proofs.Common.{◌∙◌, refl, ap, arith}
use Rattle.std.proofs.lemmas.List.{take_all, length-take-le}
use Rattle.figures.specs.Histograms.{bins_of}
use Rattle.figures.proofs.Bins.{none_yet, one_more, few}
use Rattle.figures.proofs.histogram.counted.Goals as goal

pub raise-requires-clause-by_one : goal.raise-requires-clause-by_one
raise-requires-clause-by_one c =
    omega (
      arith,
      few c.args.times.now c.args.width c.loop-time.time-index 0 c.loop-time-test.true c.loop-time.bins c.loop-time.invariant _ refl (c.requires.within c.loop-time.time-index 0 c.loop-time-test.true),
      length-take-le c.loop-time.time-index c.args.times.now (omega (arith, c.loop-time-test.true)),
      c.loop-time-test.true,
    )

pub loop-time-init : goal.loop-time-init
loop-time-init c = none_yet c.args.width

pub loop-time-preserved : goal.loop-time-preserved
loop-time-preserved c =
    c.raise.ensures ∙ one_more c.args.times.now c.args.width c.loop-time.time-index 0 c.loop-time-test.true c.loop-time.bins c.loop-time.invariant _ refl (c.requires.within c.loop-time.time-index 0 c.loop-time-test.true)

pub returns : goal.returns
returns c = c.loop-time.invariant ∙ ap (bins_of c.args.width) (take_all c.loop-time.time-index c.args.times.now (omega (arith, c.loop-time-test.false)))
