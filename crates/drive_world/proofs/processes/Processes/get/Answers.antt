use Rattle.std.proofs.Common.{◌<◌, length, ap, ◌∙◌, sym, refl, arith}
use Rattle.std.specs.FinMap.{get}
use Rattle.std.proofs.lemmas.Option.{slice_get_read}
use Rattle.drive_world.specs.WorldOf.{by_member}
use Rattle.drive_world.proofs.ByMember.{nobody_past, receiver_at}
use Rattle.drive_world.proofs.processes.Processes.get.Goals as goal

pub returns-then-place-len : goal.returns-then-place-len
returns-then-place-len c =
    let ps = c.args.self.now.list.items in
    let i = c.index-place.result in
    let low = c.if-place-len.true in
    let count = c.len.ensures in
    let within : i < length ps = omega (arith, low, count) in
    sym (ap (get (by_member ps)) (sym c.index-place.ensures) ∙ receiver_at ps i c.index.result.now (slice_get_read ps (length ps) i c.index.result.now refl within c.index.ensures))

pub returns-else-place-len : goal.returns-else-place-len
returns-else-place-len c =
    let ps = c.args.self.now.list.items in
    let past = c.if-place-len.false in
    let count = c.len.ensures in
    let place = c.index-place.ensures in
    sym (nobody_past ps c.args.member.now (omega (arith, past, count, place)))
