use Rattle.std.proofs.Common.{ap, refl, arith}
use Rattle.std.specs.Option.{unwrap_or}
use Rattle.std.proofs.lemmas.Option.{slice_get_read}
use Rattle.lookahead.specs.Between.{part_number}
use Rattle.turns.proofs.Coming.{if_both, one_comes, absent_at_place}
use Rattle.turns.proofs.parts.place.Goals as goal

pub receive-requires-clause-own : goal.receive-requires-clause-own
receive-requires-clause-own g c =
    let part = c.index_mut-part.result.now in
    let deal = c.args.division.now in
    let own = ap (λ o. unwrap_or o deal.parts) c.part-place.ensures.value in
    let here = slice_get_read c.args.parts.now.items _ c.part-place.result part refl (omega (arith, c.requires.count, c.part-place.ensures.below)) c.index_mut-part.ensures.value in
    c.requires.members c.part-place.result part here c.args.event.key.to c.requires.named own

pub receive-requires-clause-new : goal.receive-requires-clause-new
receive-requires-clause-new g c =
    let part = c.index_mut-part.result.now in
    let deal = c.args.division.now in
    let own = ap (λ o. unwrap_or o deal.parts) c.part-place.ensures.value in
    let here = slice_get_read c.args.parts.now.items _ c.part-place.result part refl (omega (arith, c.requires.count, c.part-place.ensures.below)) c.index_mut-part.ensures.value in
    absent_at_place g.Q.EventQueue.set (part_number deal) part c.args.event c.part-place.result own (c.requires.new c.part-place.result part here)

pub returns : goal.returns
returns g c =
    let part = c.index_mut-part.result.now in
    let deal = c.args.division.now in
    let own = ap (λ o. unwrap_or o deal.parts) c.part-place.ensures.value in
    let here = slice_get_read c.args.parts.now.items _ c.part-place.result part refl (omega (arith, c.requires.count, c.part-place.ensures.below)) c.index_mut-part.ensures.value in
    if_both c.receive.result c.receive.ensures.world c.receive.ensures.number
    (λ came number. one_comes g.Q.EventQueue.set (part_number deal) c.args.parts.now.items c.part-place.result part c.receive.new.self c.args.event own here came number (omega (arith, c.requires.count, c.part-place.ensures.below)))
