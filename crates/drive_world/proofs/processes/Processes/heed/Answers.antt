use Rattle.std.proofs.Common.{◌<◌, length, Some, ap, ◌∙◌, sym, refl, arith}
use Rattle.std.specs.Option.{option_map}
use Rattle.std.specs.FinMap.{get, insert}
use Rattle.std.proofs.lemmas.Option.{slice_get_read}
use Rattle.drive_process.specs.Process.{Process, unchanged}
use Rattle.drive_process.specs.ProcessOf.{process_of}
use Rattle.drive_process.specs.Driven.{heeded}
use Rattle.drive_world.specs.WorldOf.{by_member}
use Rattle.drive_world.proofs.ByMember.{nobody_past, receiver_at, put_at}
use Rattle.drive_world.proofs.processes.Processes.heed.Goals as goal

pub returns-then-len-place : goal.returns-then-len-place
returns-then-len-place c =
    let ps = c.args.self.now.list.items in
    let past = c.if-len-place.true in
    let count = c.len.ensures in
    let place = c.index-place.ensures in
    let event = c.args.event.now in (
      ap (option_map (λ (p : Process). heeded c.args.scenario.now event.key event.content p.phase c.args.actions.items (unchanged p))) (nobody_past ps event.key.to (omega (arith, past, count, place))),
      refl,
    )

pub returns : goal.returns
returns c =
    let ps = c.args.self.now.list.items in
    let i = c.index-place.result in
    let low = c.if-len-place.false in
    let count = c.len.ensures in
    let within : i < length ps = omega (arith, low, count) in
    let event = c.args.event.now in
    let here = slice_get_read ps (length ps) i c.index_mut-process.result.now refl within c.index_mut-process.ensures.value in
    let there = ap (get (by_member ps)) (sym c.index-place.ensures) ∙ receiver_at ps i c.index_mut-process.result.now here in
    record {
      process = process_of c.heed.new.process;
      made =
          ap (option_map (λ (p : Process). heeded c.args.scenario.now event.key event.content p.phase c.args.actions.items (unchanged p))) there
          ∙ ap Some (sym c.in_ok-heed.ensures.heeds);
      others = put_at ps i c.heed.new.process within ∙ ap (λ m. insert (by_member ps) m (process_of c.heed.new.process)) c.index-place.ensures;
    }
