use Rattle.std.proofs.Common.{◌≡◌, length, subst, sym, arith}
use Rattle.std.specs.Prelude.{Some, slice_get}
use Rattle.std.proofs.lemmas.Option.{gets}
use Rattle.figures.proofs.Handing.{handed}
use Rattle.table_merge.specs.Found.{AreFound, IsTableAt}
use Rattle.table_merge.specs.Reasons.{IsReason}
use Rattle.table_merge.proofs.FoundMore.{found_more, overlap_reason, table_reason}
use Rattle.table_merge.proofs.finding.tables_of.Goals as goal

pub loop-place-preserved : goal.loop-place-preserved
loop-place-preserved c =
    let there : slice_get c.args.texts.now c.loop-place.place ≡ Some c.index-texts-place.result = grind (arith, gets, c.index-texts-place.is, c.loop-place-test.true) in
    let head = c.args.first.now.head in
    let taken = c.in_ok-take_in.ensures.taken in
    found_more c.args.texts.now head.mark.now head.columns head.plan c.loop-place.tables.items c.take_in.new.tables.items taken.0 c.loop-place.place c.in_ok-seeds.seeds c.loop-place.invariant
    (record { text = c.as_slice.result.now; there = (c.index-texts-place.result, there, c.as_slice.ensures.value); begins = c.in_ok-seeds.ensures.begins }) taken.1 taken.2 c.in_ok-take_in.ensures.apart

pub returns-in_err-seeds-clause-refused : goal.returns-in_err-seeds-clause-refused
returns-in_err-seeds-clause-refused c =
    let there : slice_get c.args.texts.now c.loop-place.place ≡ Some c.index-texts-place.result = grind (arith, gets, c.index-texts-place.is, c.loop-place-test.true) in
    let head = c.args.first.now.head in
    handed c.from_residual.result _ _ c.from_residual.ensures.1
    (λ e same. subst (IsReason c.args.texts.now) (sym same)
    (table_reason c.args.texts.now head.mark.now head.columns head.plan c.args.first.now.seeds c.requires.several c.as_slice.result.now c.loop-place.place _
    (c.index-texts-place.result, there, c.as_slice.ensures.value) c.in_err-seeds.ensures.refused))

pub returns-in_err-take_in-clause-refused : goal.returns-in_err-take_in-clause-refused
returns-in_err-take_in-clause-refused c =
    let there : slice_get c.args.texts.now c.loop-place.place ≡ Some c.index-texts-place.result = grind (arith, gets, c.index-texts-place.is, c.loop-place-test.true) in
    let head = c.args.first.now.head in
    let table : IsTableAt c.args.texts.now head.mark.now head.columns head.plan c.loop-place.place c.in_ok-seeds.seeds =
    record { text = c.as_slice.result.now; there = (c.index-texts-place.result, there, c.as_slice.ensures.value); begins = c.in_ok-seeds.ensures.begins } in
    handed c.from_residual-in_err-take_in.result _ _ c.from_residual-in_err-take_in.ensures.1
    (λ e same. subst (IsReason c.args.texts.now) (sym same)
    (overlap_reason c.args.texts.now head.mark.now head.columns head.plan c.args.first.now.seeds c.requires.several c.loop-place.tables.items c.loop-place.place c.in_ok-seeds.seeds _ c.loop-place.invariant
    table c.in_err-take_in.ensures.refused))

pub returns-clause-found : goal.returns-clause-found
returns-clause-found c =
    let head = c.args.first.now.head in
    let all : c.loop-place.place ≡ length c.args.texts.now = omega (arith, c.loop-place-test.false, c.loop-place.auto.place-end) in
    subst (AreFound c.args.texts.now head.mark.now head.columns head.plan c.loop-place.tables.items) all c.loop-place.invariant
