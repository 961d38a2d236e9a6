use Rattle.std.proofs.Common.{◌≡◌, ◌+◌, sym, subst, arith}
use Rattle.lookahead_windows.specs.Walks.{IsLeastWalkAmong, IsFrom}
use Rattle.lookahead_windows.proofs.Walking.{to_one_more}
use Rattle.lookahead_windows.proofs.bounds.least_walk_from.Goals as goal

pub loop-to-preserved : goal.loop-to-preserved
loop-to-preserved c = record {
  least =
      subst (IsLeastWalkAmong c.args.horizons.now (IsFrom c.args.from (c.loop-to.to + 1))) (sym c.lesser_walk-least.ensures)
      (to_one_more c.args.horizons.now c.args.from c.loop-to.to c.loop-to.least c.walk.result c.loop-to.invariant.least c.walk.ensures.walked c.walk.ensures.least c.walk.ensures.none);
}

pub returns : goal.returns
returns c =
    let all : c.loop-to.to ≡ c.args.horizons.now.parts = omega (arith, c.parts-to-end.ensures.value) in
    subst (λ n. IsLeastWalkAmong c.args.horizons.now (IsFrom c.args.from n) c.loop-to.least) all c.loop-to.invariant.least
