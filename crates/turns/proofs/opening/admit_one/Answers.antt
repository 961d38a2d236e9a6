use Rattle.std.proofs.Common.{ap, refl, arith}
use Rattle.std.specs.Option.{unwrap_or}
use Rattle.std.proofs.lemmas.Option.{slice_get_read}
use Rattle.turns.proofs.Coming.{if_both}
use Rattle.turns.proofs.Admitted.{from_below, one_more_stands}
use Rattle.turns.proofs.opening.admit_one.Goals as goal

pub admit-requires-clause-earlier : goal.admit-requires-clause-earlier
admit-requires-clause-earlier g c =
    let part = c.index_mut-part.result.now in
    let here = slice_get_read c.args.parts.now.items _ c.part-place.result part refl (omega (arith, c.requires.so_far.count, c.part-place.ensures.below)) c.index_mut-part.ensures.value in
    from_below g.Q.EventQueue.set c.args.scenario.now c.args.division.now c.args.parts.now.items c.args.member c.part-place.result part c.requires.so_far here

pub returns-clause-opened : goal.returns-clause-opened
returns-clause-opened g c =
    let part = c.index_mut-part.result.now in
    let here = slice_get_read c.args.parts.now.items _ c.part-place.result part refl (omega (arith, c.requires.so_far.count, c.part-place.ensures.below)) c.index_mut-part.ensures.value in
    if_both c.admit.result c.admit.ensures.world c.admit.ensures.number (λ world number.
    one_more_stands g.Q.EventQueue.set c.args.scenario.now c.args.division.now c.args.parts.now.items c.args.member c.part-place.result part c.admit.new.self c.requires.so_far
    (ap (λ o. unwrap_or o c.args.division.now.parts) c.part-place.ensures.value) here world number)
