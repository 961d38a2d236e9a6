use Rattle.std.proofs.Common.{◌≤◌, sym, subst, refl, arith}
use Rattle.base.specs.World.{IsOver}
use Rattle.run_output.proofs.Faults.{on_err}
use Rattle.worker_queue.specs.Queue.{IsLeastKey}
use Rattle.drive_world.specs.declared.pending.Pending.{Pending}
use Rattle.drive_world.specs.WorldOf.{events_in}
use Rattle.drive_world.specs.DriveOf.{world_of}
use Rattle.drive_world.specs.Halts.{ComesTo}
use Rattle.drive_world.proofs.RowOrder.{cmp, row_order}
use Rattle.drive_world.proofs.Handed.{begun, turned}
use Rattle.drive_world.proofs.Resting.{takes}
use Rattle.drive_world.proofs.Ending.{pauses}
use Rattle.drive_world.proofs.driving.play.Goals as goal

pub loop-turn-init : goal.loop-turn-init
loop-turn-init g c = record { under = c.requires.begun; taken = λ first taken. taken; gathered = c.requires.gathered; failed = refl }

pub returns-in_default-clause-pauses : goal.returns-in_default-clause-pauses
returns-in_default-clause-pauses g c = (c.loop-turn.invariant.under, subst (λ e. IsOver e (world_of c.loop-turn.world)) c.end.ensures.value c.in_default.ensures.over)

pub hand_on_before-requires-clause-under : goal.hand_on_before-requires-clause-under
hand_on_before-requires-clause-under g c = (g.H.Harness.told c.loop-turn.harness, g.H.Harness.gave c.loop-turn.harness, c.loop-turn.invariant.under)

pub hand_on_before-requires-clause-in_time : goal.hand_on_before-requires-clause-in_time
hand_on_before-requires-clause-in_time g c = subst (λ e. c.in-Some.least.at ≤ e) c.end.ensures.value c.in-Some.ensures.in_time

pub returns-in_err-hand_on_before-clause-part : goal.returns-in_err-hand_on_before-clause-part
returns-in_err-hand_on_before-clause-part g c = λ first taken. on_err c.from_residual.result (c.in_err-hand_on_before.ensures.part first (c.loop-turn.invariant.taken first taken))

pub turn-requires-clause-way : goal.turn-requires-clause-way
turn-requires-clause-way g c =
    (c.in_ok-hand_on_before.ensures.under (g.H.Harness.told c.loop-turn.harness) (g.H.Harness.gave c.loop-turn.harness) c.loop-turn.invariant.under).way

pub turn-requires-clause-goes_on : goal.turn-requires-clause-goes_on
turn-requires-clause-goes_on g c = record {
  key = c.in-Some.least;
  least = subst (λ (p : Pending). IsLeastKey (events_in p) c.in-Some.least) (sym c.in_ok-hand_on_before.ensures.pending) c.in-Some.ensures.least;
  in_time = subst (λ e. c.in-Some.least.at ≤ e) c.end.ensures.value c.in-Some.ensures.in_time;
}

pub returns-in_err-halt-clause-part : goal.returns-in_err-halt-clause-part
returns-in_err-halt-clause-part g c = λ first taken.
    let s = c.args.setting.now.scenario.now in
    let told = g.H.Harness.told c.loop-turn.harness in
    let gave = g.H.Harness.gave c.loop-turn.harness in
    on_err c.from_residual-in_err-halt.result
    (takes s first (g.T.RowSink.held c.hand_on_before.new.place) c.hand_on_before.new.tallies (c.in_ok-hand_on_before.ensures.taken first (c.loop-turn.invariant.taken first taken))
    (begun cmp row_order s c.args.setting.now.least_delay c.hand_on_before.new.world told gave c.hand_on_before.new.tallies c.requires.setting.sound c.requires.setting.least
    (c.in_ok-hand_on_before.ensures.under told gave c.loop-turn.invariant.under)))

pub returns-in-Some-2-clause-pauses : goal.returns-in-Some-2-clause-pauses
returns-in-Some-2-clause-pauses g c =
    let s = c.args.setting.now.scenario.now in
    let told = g.H.Harness.told c.loop-turn.harness in
    let gave = g.H.Harness.gave c.loop-turn.harness in
    pauses cmp row_order s c.args.setting.now.least_delay c.requires.setting.sound c.in-Some-2.halt c.hand_on_before.new.world c.turn.new.world told (g.H.Harness.told c.turn.new.harness) gave
    (g.H.Harness.gave c.turn.new.harness) c.hand_on_before.new.tallies (c.in_ok-hand_on_before.ensures.under told gave c.loop-turn.invariant.under)
    (record {
      key = c.in-Some.least;
      least = subst (λ (p : Pending). IsLeastKey (events_in p) c.in-Some.least) (sym c.in_ok-hand_on_before.ensures.pending) c.in-Some.ensures.least;
      in_time = subst (λ e. c.in-Some.least.at ≤ e) c.end.ensures.value c.in-Some.ensures.in_time;
    }) c.in_ok-halt.ensures.way
    (subst (λ h. ComesTo s c.args.setting.now.least_delay h c.hand_on_before.new.world c.turn.new.world told (g.H.Harness.told c.turn.new.harness) gave (g.H.Harness.gave c.turn.new.harness))
    c.in-Some-2.is c.in_ok-halt.ensures.comes)

pub loop-turn-preserved : goal.loop-turn-preserved
loop-turn-preserved g c =
    let s = c.args.setting.now.scenario.now in
    let told = g.H.Harness.told c.loop-turn.harness in
    let gave = g.H.Harness.gave c.loop-turn.harness in
    let so_far = c.loop-turn.invariant.failed in
    let none = c.in_ok-hand_on_before.ensures.failures in
    record {
      under =
          turned cmp row_order s c.args.setting.now.least_delay c.hand_on_before.new.world c.turn.new.world told (g.H.Harness.told c.turn.new.harness) gave (g.H.Harness.gave c.turn.new.harness)
          c.hand_on_before.new.tallies c.requires.setting.sound (c.in_ok-hand_on_before.ensures.under told gave c.loop-turn.invariant.under) (subst (λ h. ComesTo s c.args.setting.now.least_delay h c.hand_on_before.new.world c.turn.new.world told (g.H.Harness.told c.turn.new.harness) gave (g.H.Harness.gave c.turn.new.harness))
          c.in_default-2.is c.in_ok-halt.ensures.comes) c.in_ok-halt.ensures.way;
      taken = λ first taken. c.in_ok-hand_on_before.ensures.taken first (c.loop-turn.invariant.taken first taken);
      gathered = c.in_ok-hand_on_before.ensures.gathered;
      failed = omega (arith, so_far, none);
    }

pub returns-clause-part : goal.returns-clause-part
returns-clause-part g c = λ first taken.
    takes c.args.setting.now.scenario.now first (g.T.RowSink.held c.loop-turn.place) c.loop-turn.tallies (c.loop-turn.invariant.taken first taken)
    (begun cmp row_order c.args.setting.now.scenario.now c.args.setting.now.least_delay c.loop-turn.world (g.H.Harness.told c.loop-turn.harness) (g.H.Harness.gave c.loop-turn.harness) c.loop-turn.tallies
    c.requires.setting.sound c.requires.setting.least c.loop-turn.invariant.under)
