use Rattle.std.proofs.Common.{◌++◌, ◌∷◌, [], ◌∙◌, ap, sym, take, map, arith, List, ◌^◌}
use Rattle.std.specs.List.{range_with_len}
use Rattle.std.proofs.lemmas.List.{length-take-le, take_all, take_more}
use Rattle.script_summary.specs.declared.happening.Happening.{Happening}
use Rattle.script_summary.specs.Extents.{extent_at}
use Rattle.script_summary.proofs.Extents.{few, none_yet, one_more}
use Rattle.script_summary.proofs.extent.extents.Goals as goal

pub loop-it-init : goal.loop-it-init
loop-it-init c = c.in_ok-made.ensures ∙ none_yet c.args.count

pub add-requires : goal.add-requires
add-requires c = few (take c.loop-it.it-index c.args.all.now) c.args.count c.loop-it.made.items c.loop-it.invariant c.it-item.result (2 ^ 63)
    (omega (arith, c.loop-it-test.true, length-take-le c.loop-it.it-index c.args.all.now (omega (arith, c.loop-it-test.true))))

pub loop-it-preserved : goal.loop-it-preserved
loop-it-preserved c =
    let seen = take c.loop-it.it-index c.args.all.now in
    c.add.ensures
    ∙ one_more seen c.args.count c.loop-it.made.items c.loop-it.invariant c.it-item.result
    ∙ ap (λ (l : List Happening). map (extent_at l) (range_with_len 0 c.args.count))
    (sym (take_more c.args.all.now c.loop-it.it-index c.it-item.result c.loop-it-test.true ∙ ap (λ (x : Happening). seen ++ x ∷ []) (sym c.it-item.is)))

pub returns : goal.returns
returns c =
    c.loop-it.invariant
    ∙ ap (λ (l : List Happening). map (extent_at l) (range_with_len 0 c.args.count)) (take_all c.loop-it.it-index c.args.all.now (omega (arith, c.loop-it-test.false)))
