use Rattle.std.proofs.Common.{◌≡◌, ◌+◌, sym, subst, arith}
use Rattle.lookahead_windows.specs.Walks.{IsLeastWalkAmong, IsInto}
use Rattle.lookahead_windows.proofs.Walking.{into_one_more}
use Rattle.lookahead_windows.proofs.bounds.least_walk_into.Goals as goal

pub loop-from-preserved : goal.loop-from-preserved
loop-from-preserved c = record {
  least =
      subst (IsLeastWalkAmong c.args.walks.now (IsInto (c.loop-from.from + 1) c.args.to)) (sym c.lesser_walk-least.ensures)
      (into_one_more c.args.walks.now c.loop-from.from c.args.to c.loop-from.least c.walk.result c.loop-from.invariant.least c.walk.ensures.walked c.walk.ensures.least c.walk.ensures.none);
}

pub returns : goal.returns
returns c =
    let all : c.loop-from.from ≡ c.args.walks.now.parts = omega (arith, c.parts-from-end.ensures.value) in
    subst (λ n. IsLeastWalkAmong c.args.walks.now (IsInto n c.args.to) c.loop-from.least) all c.loop-from.invariant.least
