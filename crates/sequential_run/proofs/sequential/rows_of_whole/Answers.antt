use Rattle.std.proofs.Common.{◌+◌, [], sym, subst, arith}
use Rattle.windows.specs.WorldOf.{world_of}
use Rattle.windows.specs.Window.{IsConsistentPart}
use Rattle.windows.proofs.Slots.{part_no_overflow}
use Rattle.worker_queue.specs.SetOf.{set_of}
use Rattle.windows.proofs.WholeOpening.{opening_consistent}
use Rattle.sequential_run.proofs.Whole.{at_opening, comes_on, comes_overflow, comes_to_end, comes_no_overflow}
use Rattle.turns.proofs.Goes.{names_run}
use Rattle.sequential_run.proofs.Faults.{overflow_step}
use Rattle.sequential_run.proofs.sequential.rows_of_whole.Goals as goal

pub run-requires-clause-consistent : goal.run-requires-clause-consistent
run-requires-clause-consistent c =
    subst (IsConsistentPart c.args.scenario.now) (sym c.in_ok-part.ensures) (opening_consistent c.args.scenario.now c.end.ensures.sound)

pub returns-clause-run : goal.returns-clause-run
returns-clause-run c =
    let s = c.args.scenario.now in
    let sound = c.end.ensures.sound in
    let part = world_of set_of c.in_ok-part.part in
    let after = world_of set_of c.in_ok-done.done.part in
    let rows = c.in_ok-done.done.rows.items in
    let come = comes_on s sound 0 part [] (at_opening s sound part c.in_ok-part.ensures) (c.ticks.result + 1) c.in_ok-done.done.out.items rows after c.in_ok-done.ensures.ok in
    comes_to_end s sound (c.ticks.result + 1) after rows come (omega (arith, c.ticks.ensures, c.end.ensures.value))

pub returns-clause-named : goal.returns-clause-named
returns-clause-named c =
    let s = c.args.scenario.now in
    let sound = c.end.ensures.sound in
    let part = world_of set_of c.in_ok-part.part in
    let after = world_of set_of c.in_ok-done.done.part in
    let rows = c.in_ok-done.done.rows.items in
    let come = comes_on s sound 0 part [] (at_opening s sound part c.in_ok-part.ensures) (c.ticks.result + 1) c.in_ok-done.done.out.items rows after c.in_ok-done.ensures.ok in
    names_run s sound rows (comes_to_end s sound (c.ticks.result + 1) after rows come (omega (arith, c.ticks.ensures, c.end.ensures.value)))

pub returns-clause-lasts : goal.returns-clause-lasts
returns-clause-lasts c =
    let s = c.args.scenario.now in
    let sound = c.end.ensures.sound in
    let part = world_of set_of c.in_ok-part.part in
    let after = world_of set_of c.in_ok-done.done.part in
    let rows = c.in_ok-done.done.rows.items in
    let come = comes_on s sound 0 part [] (at_opening s sound part c.in_ok-part.ensures) (c.ticks.result + 1) c.in_ok-done.done.out.items rows after c.in_ok-done.ensures.ok in
    comes_no_overflow s sound (c.ticks.result + 1) after rows come (omega (arith, c.ticks.ensures, c.end.ensures.value)) (part_no_overflow set_of c.in_ok-done.done.part)

pub returns-in_err-done-clause-overflow : goal.returns-in_err-done-clause-overflow
returns-in_err-done-clause-overflow c = λ h.
    let s = c.args.scenario.now in
    let sound = c.end.ensures.sound in
    let part = world_of set_of c.in_ok-part.part in
    comes_overflow s sound 0 part [] (at_opening s sound part c.in_ok-part.ensures) (c.ticks.result + 1)
    (c.in_err-done.ensures.overflow (overflow_step c.from_residual-in_err-done.result _ c.from_residual-in_err-done.ensures.1 h))
