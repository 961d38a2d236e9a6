use Rattle.std.proofs.Common.{◌≡◌, ◌<◌, ◌≤◌, ◌++◌, map, length, get_or, string_bytes, sym, ap, ◌∙◌, arith}
use Rattle.std.specs.List.{join_with_byte, range_with_len}
use Rattle.std.proofs.lemmas.List.{take_all}
use Rattle.std.proofs.lemmas.List.FromFn.{get_or-range_with_len, length-range_with_len}
use Rattle.sweep_plan.specs.Axes.{place_count}
use Rattle.sweep_plan.specs.Asked.{values_text}
use Rattle.sweep_plan.proofs.Joined.{joined_behind}
use Rattle.sweep_plan.proofs.telling.push_rows.Goals as goal

pub loop-place-preserved : goal.loop-place-preserved
loop-place-preserved c =
    let axis = c.args.axis.now in
    let n = place_count axis in
    let place = c.loop-place.place in
    let low : place < n = (let count = c.place_count-place-end.ensures in let test = c.loop-place-test.true in omega (arith, count, test)) in
    let many = length-range_with_len 0 n in
    let at : get_or (range_with_len 0 n) place 0 ≡ place = get_or-range_with_len 0 n place 0 low ∙ omega arith in
    joined_behind 44 (values_text axis) (range_with_len 0 n) place 0 (string_bytes c.args.text.now) (string_bytes c.push_row.new.text) (string_bytes c.push_comma.new.text) (string_bytes c.loop-place.text) (omega (arith, many, low))
    (c.in_ok-push_row.ensures ∙ ap (λ p. string_bytes c.push_comma.new.text ++ values_text axis p) (sym at)) c.in_ok-push_comma.ensures c.loop-place.invariant

pub returns : goal.returns
returns c =
    let axis = c.args.axis.now in
    let n = place_count axis in
    let past : length (range_with_len 0 n) ≤ c.loop-place.place =
    (let many = length-range_with_len 0 n in let count = c.place_count-place-end.ensures in let test = c.loop-place-test.false in omega (arith, many, count, test)) in
    c.loop-place.invariant ∙ ap (λ l. string_bytes c.args.text.now ++ join_with_byte 44 (map (values_text axis) l)) (take_all c.loop-place.place (range_with_len 0 n) past)
