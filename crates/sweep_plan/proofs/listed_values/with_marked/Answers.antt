use Rattle.std.proofs.Common.{◌≡◌, ◌<◌, ◌+◌, false, [], ◌∷◌, ◌++◌, get_or, length, map, take, sym, ap, ◌∙◌, arith}
use Rattle.std.proofs.lemmas.List.{length-map, length-take, map_more, map-append, take_more}
use Rattle.toml.specs.View.{view}
use Rattle.sweep_plan.specs.Document.{data_of, with_marked}
use Rattle.sweep_plan.proofs.Marks.{marked_more}
use Rattle.sweep_plan.proofs.listed_values.with_marked.Goals as goal

pub loop-place-preserved : goal.loop-place-preserved
loop-place-preserved c =
    let xs = c.args.items.now in
    let marks = c.args.marks.now in
    let i = c.loop-place.place in
    let x = c.index-items-place.result in
    let m = get_or marks i false in
    let k = c.args.key in
    let d = data_of c.args.value in
    let inside : i < length xs = c.loop-place-test.true in
    let each : length marks ≡ length xs = c.requires.each in
    let marked : take (i + 1) marks ≡ take i marks ++ m ∷ [] = take_more marks i false (omega arith) in
    let seen : map view (take (i + 1) xs) ≡ map view (take i xs) ++ view x ∷ [] = map_more view xs i x inside ∙ ap (λ v. map view (take i xs) ++ view v ∷ []) (sym c.index-items-place.is) in
    let long_marks = length-take i marks in
    let long_items = length-take i xs in
    let long_views = length-map (take i xs) view in
    let same : length (take i marks) ≡ length (map view (take i xs)) = omega arith in
    ap (map view) c.in_ok-push.ensures.items
    ∙ map-append view c.loop-place.changed.items (c.in_ok-with_item.field-0 ∷ [])
    ∙ (λ j. c.loop-place.invariant j ++ c.in_ok-with_item.ensures j ∷ [])
    ∙ sym (marked_more k d (take i marks) (map view (take i xs)) m (view x) same)
    ∙ (λ j. with_marked k d (sym marked j) (sym seen j))
