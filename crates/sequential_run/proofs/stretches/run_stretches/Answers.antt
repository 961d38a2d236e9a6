use Rattle.std.proofs.Common.{◌≢◌, ◌≤◌, ◌^◌, ◌++◌, length, All, Ok, inl, inr, ap, ◌∙◌, sym, subst, refl, arith, rules}
use Rattle.base.specs.declared.fault.Fault.TheVariants.{Write}
use Rattle.trace.specs.Text.{NamesMembers}
use Rattle.windows.specs.WorldOf.{world_of}
use Rattle.windows.specs.Window.{IsConsistentPart}
use Rattle.windows.proofs.Slots.{part_no_overflow}
use Rattle.windows.proofs.WholeOpening.{opening_consistent}
use Rattle.turns.specs.Beginning.{BeginsRun}
use Rattle.turns.proofs.Goes.{names_next}
use Rattle.run_output.specs.Written.{HasWritten}
use Rattle.reports.proofs.Faults.{handed_on}
use Rattle.run_output.proofs.Faults.{on_err}
use Rattle.run_output.proofs.Failing.{answered}
use Rattle.run_output.proofs.Streaming.{written_on}
use Rattle.sequential_run.proofs.Whole.{HasComeTo, at_opening, comes_on, comes_overflow, comes_first, comes_to_end, comes_no_overflow}
use Rattle.sequential_run.proofs.Reported.{wears_report, lasts_in_report}
use Rattle.sequential_run.proofs.Faults.{overflow_step, no_failure, on_fault}
use Rattle.sequential_run.proofs.Streamed.{begins_trace}
use Rattle.sequential_run.proofs.stretches.run_stretches.Goals as goal

pub loop-from-init : goal.loop-from-init
loop-from-init g c =
    let s = c.args.cluster.scenario.now in
    let world = world_of g.Q.EventQueue.set c.args.part in
    record {
      consistent = subst (IsConsistentPart s) (sym c.requires.opened) (opening_consistent s c.requires.sound);
      come = subst (HasComeTo s 0 world) (sym c.new-tallies.ensures) (at_opening s c.requires.sound world c.requires.opened);
      written = λ first wrote. subst (λ rows. HasWritten {T = Unit {0}} s rows first (g.T.RowSink.held c.args.place.now) rows (Ok (tt {0}))) (sym c.new-tallies.ensures) wrote;
      gathered = subst (g.T.RowSink.gathered c.args.place.now s) (sym c.new-tallies.ensures) c.requires.none_gathered;
      empty = c.new-room.ensures.items;
      few = subst (λ l. length l ≤ 2 ^ 63) (sym c.new-tallies.ensures) (omega arith);
      unfailed = refl;
    }

pub returns-in_err-done-clause-part : goal.returns-in_err-done-clause-part
returns-in_err-done-clause-part g c = λ first wrote.
    let s = c.args.cluster.scenario.now in
    let before = c.loop-from.tallies in
    on_err _
    (begins_trace s before before _ _ _ (comes_first s c.requires.sound c.loop-from.from (world_of g.Q.EventQueue.set c.loop-from.part) before c.loop-from.invariant.come) (c.loop-from.invariant.written first wrote))

pub returns-in_err-done-clause-overflow : goal.returns-in_err-done-clause-overflow
returns-in_err-done-clause-overflow g c = λ h.
    inl (comes_overflow c.args.cluster.scenario.now c.requires.sound c.loop-from.from (world_of g.Q.EventQueue.set c.loop-from.part) c.loop-from.tallies c.loop-from.invariant.come c.stretch_end-bound.result
    (c.in_err-done.ensures.overflow (overflow_step c.from_residual.result _ c.from_residual.ensures.1 h)))

pub returns-in_err-done-clause-others : goal.returns-in_err-done-clause-others
returns-in_err-done-clause-others g c = on_fault (λ fault. fault ≢ Write) _ c.loop-from.invariant.unfailed

pub take-requires-clause-named : goal.take-requires-clause-named
take-requires-clause-named g c =
    let s = c.args.cluster.scenario.now in
    let set = g.Q.EventQueue.set in
    let before = c.loop-from.tallies in
    let after = world_of set c.in_ok-done.done.part in
    let on = comes_on s c.requires.sound c.loop-from.from (world_of set c.loop-from.part) before c.loop-from.invariant.come c.stretch_end-bound.result c.in_ok-done.done.out.items c.in_ok-done.done.rows.items after c.in_ok-done.ensures.ok in
    let named : All (NamesMembers s) c.deref.result.now =
    names_next s c.requires.sound before c.deref.result.now
    (subst (λ l. BeginsRun s (before ++ l)) (sym c.deref.ensures.value) (comes_first s c.requires.sound c.stretch_end-bound.result after (before ++ c.in_ok-done.done.rows.items) on)) in
    search (rules, named)

pub returns-in_err-take-clause-part : goal.returns-in_err-take-clause-part
returns-in_err-take-clause-part g c = λ first wrote.
    let s = c.args.cluster.scenario.now in
    let set = g.Q.EventQueue.set in
    let before = c.loop-from.tallies in
    let rows = c.deref.result.now in
    let after = world_of set c.in_ok-done.done.part in
    let on = comes_on s c.requires.sound c.loop-from.from (world_of set c.loop-from.part) before c.loop-from.invariant.come c.stretch_end-bound.result c.in_ok-done.done.out.items c.in_ok-done.done.rows.items after c.in_ok-done.ensures.ok in
    on_err _
    (begins_trace s (before ++ rows) _ _ _ _
    (subst (λ l. BeginsRun s (before ++ l)) (sym c.deref.ensures.value) (comes_first s c.requires.sound c.stretch_end-bound.result after (before ++ c.in_ok-done.done.rows.items) on))
    (written_on s before rows _ _ _ before c.take.new.tallies _ (c.loop-from.invariant.written first wrote) c.in_err-take.ensures.whole c.in_err-take.ensures.tallied c.in_err-take.ensures.part c.in_err-take.ensures.lasts c.in_err-take.ensures.overflow))

pub returns-in_err-take-clause-overflow : goal.returns-in_err-take-clause-overflow
returns-in_err-take-clause-overflow g c = λ h.
    let s = c.args.cluster.scenario.now in
    let set = g.Q.EventQueue.set in
    let before = c.loop-from.tallies in
    let after = world_of set c.in_ok-done.done.part in
    let on = comes_on s c.requires.sound c.loop-from.from (world_of set c.loop-from.part) before c.loop-from.invariant.come c.stretch_end-bound.result c.in_ok-done.done.out.items c.in_ok-done.done.rows.items after c.in_ok-done.ensures.ok in
    inr (wears_report s (before ++ c.deref.result.now)
    (subst (λ l. BeginsRun s (before ++ l)) (sym c.deref.ensures.value) (comes_first s c.requires.sound c.stretch_end-bound.result after (before ++ c.in_ok-done.done.rows.items) on))
    (c.in_err-take.ensures.overflow (handed_on c.from_residual-in_err-take.result _ _ c.from_residual-in_err-take.ensures.1 h)))

pub returns-in_err-take-clause-others : goal.returns-in_err-take-clause-others
returns-in_err-take-clause-others g c =
    let so_far = c.loop-from.invariant.unfailed in
    answered (λ fault. fault ≢ Write → _) _ _ c.from_residual-in_err-take.ensures.1
    (λ differs. let none = no_failure (Unit {0}) _ differs in omega (arith, none, so_far, c.in_err-take.ensures.failures))

pub loop-from-preserved : goal.loop-from-preserved
loop-from-preserved g c =
    let s = c.args.cluster.scenario.now in
    let set = g.Q.EventQueue.set in
    let before = c.loop-from.tallies in
    let rows = c.deref.result.now in
    let after = world_of set c.in_ok-done.done.part in
    let on = comes_on s c.requires.sound c.loop-from.from (world_of set c.loop-from.part) before c.loop-from.invariant.come c.stretch_end-bound.result c.in_ok-done.done.out.items c.in_ok-done.done.rows.items after c.in_ok-done.ensures.ok in
    let same = c.in_ok-take.ensures.tallied in
    let none = c.in_ok-take.ensures.failures in
    let so_far = c.loop-from.invariant.unfailed in
    record {
      consistent = c.in_ok-done.ensures.consistent;
      come =
          subst (λ t. HasComeTo s t after c.take.new.tallies) (sym c.ticks-from.ensures)
          (subst (HasComeTo s c.stretch_end-bound.result after) (sym (same ∙ ap (λ l. before ++ l) c.deref.ensures.value)) on);
      written = λ first wrote.
          subst (λ l. HasWritten {T = Unit {0}} s l first (g.T.RowSink.held c.take.new.place) c.take.new.tallies (Ok (tt {0}))) (sym same)
          (written_on s before rows _ _ _ before c.take.new.tallies _ (c.loop-from.invariant.written first wrote) c.in_ok-take.ensures.whole same c.in_ok-take.ensures.part c.in_ok-take.ensures.lasts c.in_ok-take.ensures.overflow);
      gathered = c.in_ok-take.ensures.gathered;
      empty = c.clear.ensures.items;
      few = c.in_ok-take.ensures.lasts;
      unfailed = omega (arith, none, so_far);
    }

pub loop-from-smaller : goal.loop-from-smaller
loop-from-smaller g c = omega (arith, c.ticks-last.ensures, c.ticks-from.ensures, c.stretch_end-bound.ensures)

pub returns-clause-run : goal.returns-clause-run
returns-clause-run g c =
    comes_to_end c.args.cluster.scenario.now c.requires.sound c.loop-from.from (world_of g.Q.EventQueue.set c.loop-from.part) c.loop-from.tallies c.loop-from.invariant.come (omega arith)

pub returns-clause-lasts : goal.returns-clause-lasts
returns-clause-lasts g c =
    comes_no_overflow c.args.cluster.scenario.now c.requires.sound c.loop-from.from (world_of g.Q.EventQueue.set c.loop-from.part) c.loop-from.tallies c.loop-from.invariant.come (omega arith)
    (part_no_overflow g.Q.EventQueue.set c.loop-from.part)

pub returns-clause-whole : goal.returns-clause-whole
returns-clause-whole g c = λ first wrote. (c.loop-from.invariant.written first wrote).whole.0

pub returns-clause-lasts_report : goal.returns-clause-lasts_report
returns-clause-lasts_report g c =
    let rows = c.loop-from.tallies in
    let run = comes_to_end c.args.cluster.scenario.now c.requires.sound c.loop-from.from (world_of g.Q.EventQueue.set c.loop-from.part) rows c.loop-from.invariant.come (omega arith) in
    lasts_in_report c.args.cluster.scenario.now rows c.requires.sound run c.loop-from.invariant.few

pub returns-clause-gathered : goal.returns-clause-gathered
returns-clause-gathered g c = c.loop-from.invariant.gathered
