use Rattle.std.proofs.Common.{◌≡◌, sym, subst, arith}
use Rattle.std.specs.Prelude.{Some, slice_get}
use Rattle.std.proofs.lemmas.Option.{gets}
use Rattle.shard_merge.specs.Reasons.{IsReason}
use Rattle.figures.proofs.Handing.{handed}
use Rattle.shard_merge.proofs.PlacesMore.{memory_reason, no_places, place_reason, text_reason}
use Rattle.shard_merge.proofs.places.places_of.Goals as goal

pub loop-place-init : goal.loop-place-init
loop-place-init c = no_places c.args.texts.now c.args.head.now.mark.now c.args.head.now.columns c.args.head.now.plan c.args.head.now.shard.of _ c.in_ok-places.ensures.none

pub loop-place-preserved : goal.loop-place-preserved
loop-place-preserved c =
    let there : slice_get c.args.texts.now c.loop-place.place ≡ Some c.index-texts-place.result = grind (arith, gets, c.index-texts-place.is, c.loop-place-test.true) in
    c.in_ok-take_place.ensures.kept c.args.texts.now _ _ _ _ _ c.loop-place.invariant (c.index-texts-place.result, there, c.as_slice.ensures.value) c.in_ok-number.ensures.begins

pub returns-in_err-places-clause-refused : goal.returns-in_err-places-clause-refused
returns-in_err-places-clause-refused c =
    handed c.from_residual.result _ _ c.from_residual.ensures.1
    (λ e same. subst (IsReason c.args.texts.now) (sym same) (memory_reason c.args.texts.now _ c.in_err-places.ensures.refused))

pub returns-in_err-number-clause-refused : goal.returns-in_err-number-clause-refused
returns-in_err-number-clause-refused c =
    let head = c.args.head.now in
    let there : slice_get c.args.texts.now c.loop-place.place ≡ Some c.index-texts-place.result = grind (arith, gets, c.index-texts-place.is, c.loop-place-test.true) in
    handed c.from_residual-in_err-number.result _ _ c.from_residual-in_err-number.ensures.1
    (λ e same. subst (IsReason c.args.texts.now) (sym same)
    (text_reason c.args.texts.now head.mark.now head.columns head.plan head.shard c.requires _ c.loop-place.place _ (c.index-texts-place.result, there, c.as_slice.ensures.value) c.in_err-number.ensures.refused))

pub returns-in_err-take_place-clause-refused : goal.returns-in_err-take_place-clause-refused
returns-in_err-take_place-clause-refused c =
    let head = c.args.head.now in
    let there : slice_get c.args.texts.now c.loop-place.place ≡ Some c.index-texts-place.result = grind (arith, gets, c.index-texts-place.is, c.loop-place-test.true) in
    handed c.from_residual-in_err-take_place.result _ _ c.from_residual-in_err-take_place.ensures.1
    (λ e same. subst (IsReason c.args.texts.now) (sym same)
    (place_reason c.args.texts.now head.mark.now head.columns head.plan head.shard c.requires _ _ c.in_ok-number.number c.loop-place.place _ c.loop-place.invariant
    (c.index-texts-place.result, there, c.as_slice.ensures.value) c.in_ok-number.ensures.begins c.in_err-take_place.ensures.refused))
