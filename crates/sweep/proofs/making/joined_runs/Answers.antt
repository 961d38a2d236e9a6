use Rattle.std.proofs.Common.{subst, sym}
use Rattle.std.specs.List.{AllZip, flat_map}
use Rattle.sweep.specs.Table.{IsMadeLot, IsMadeOf}
use Rattle.sweep.proofs.Lots.{no_lot, one_lot_more}
use Rattle.sweep.proofs.making.joined_runs.Goals as goal

pub loop-lot-init : goal.loop-lot-init
loop-lot-init c = λ tree sweep key. no_lot (IsMadeOf tree sweep key) (IsMadeLot tree sweep key) c.new-runs.result.items c.new-runs.ensures.items

pub loop-lot-preserved : goal.loop-lot-preserved
loop-lot-preserved c = λ tree sweep key numbers zipped.
    let more = c.in_ok-made.made.items in
    subst (AllZip (IsMadeOf tree sweep key) (flat_map (λ lot. lot) numbers)) (sym c.in_ok-append.ensures.items)
    (one_lot_more (IsMadeOf tree sweep key) (IsMadeLot tree sweep key) c.loop-lot.yielded c.in-Some.lot c.loop-lot.runs.items more (c.loop-lot.invariant tree sweep key)
    (λ lot made. subst (IsMadeLot tree sweep key lot) c.in_ok-made.was made) numbers zipped)
