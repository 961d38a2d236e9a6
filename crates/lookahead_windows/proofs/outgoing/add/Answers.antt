use Rattle.std.proofs.Common.{ap, refl, arith}
use Rattle.std.specs.Option.{unwrap_or}
use Rattle.std.proofs.lemmas.Option.{slice_get_read}
use Rattle.lookahead.specs.Between.{part_number}
use Rattle.lookahead_windows.proofs.Dealing.{one_dealt}
use Rattle.lookahead_windows.proofs.outgoing.add.Goals as goal

pub returns-clause-added : goal.returns-clause-added
returns-clause-added c = λ before dealt.
    let deal = c.args.division.now in
    let lists = c.args.lists.now.items in
    let place = c.part-place.result in
    let list = c.index_mut-list.result.now in
    let own = ap (λ o. unwrap_or o deal.parts) c.part-place.ensures.value in
    let here = slice_get_read lists _ place list refl (omega (arith, c.requires.count, c.part-place.ensures.below)) c.index_mut-list.ensures.value in
    one_dealt (part_number deal) deal.parts (λ list. list.items) lists before c.args.event place list c.push.new.self own here c.in_ok-push.ensures.items c.part-place.ensures.below dealt
