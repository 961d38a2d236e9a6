use Rattle.std.proofs.Common.{◌≡◌, ◌+◌, sym, subst, arith}
use Rattle.lookahead_windows.specs.Walks.{IsLeastWalkAmong, AreBelow}
use Rattle.lookahead_windows.proofs.Walking.{from_one_more}
use Rattle.lookahead_windows.proofs.bounds.least_walk.Goals as goal

pub loop-from-preserved : goal.loop-from-preserved
loop-from-preserved c =
    let table = c.args.horizons.now in
    record {
      least =
          subst (IsLeastWalkAmong table (AreBelow (c.loop-from.from + 1) table.parts)) (sym c.lesser_walk-least.ensures)
          (from_one_more table c.loop-from.from table.parts c.loop-from.least c.least_walk_from.result c.loop-from.invariant.least c.least_walk_from.ensures);
    }

pub returns : goal.returns
returns c =
    let table = c.args.horizons.now in
    let all : c.loop-from.from ≡ table.parts = omega (arith, c.parts-from-end.ensures.value) in
    subst (λ n. IsLeastWalkAmong table (AreBelow n table.parts) c.loop-from.least) all c.loop-from.invariant.least
