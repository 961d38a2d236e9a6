use Rattle.std.proofs.Common.{◌<◌, length, ◌∙◌, arith}
use Rattle.streams.specs.Draw.{words_of}
use Rattle.probing.proofs.SampleLemmas.{one_draw}
use Rattle.probing.proofs.samples.sample.Goals as goal

pub loop-draws-preserved : goal.loop-draws-preserved
loop-draws-preserved c =
    let few : length c.loop-draws.taken.items < c.args.k = omega (arith, c.len.ensures, c.if-len-k.true) in
    one_draw c.loop-draws.draws c.args.k c.args.candidates.now c.loop-draws.taken.items c.take.new.taken.items (words_of c.loop-draws.stream) (words_of c.below-place.new.self)
    c.below-place.result c.index-candidates-place.result c.loop-draws-test.true few c.below-place.ensures.within c.below-place.ensures.drawn c.index-candidates-place.is c.in_ok-take.ensures
    ∙ c.loop-draws.invariant
