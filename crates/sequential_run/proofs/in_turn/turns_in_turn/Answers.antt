use Rattle.std.proofs.Common.{◌+◌, [], sym, subst, arith}
use Rattle.turns.specs.Bounds.{IsFirstMoment}
use Rattle.turns.proofs.Goes.{IsUnderWay, not_yet, consistent, came, further, goes_on, one_wears, ends_here, ends_past}
use Rattle.sequential_run.proofs.Faults.{overflow_step}
use Rattle.sequential_run.proofs.in_turn.turns_in_turn.Goals as goal

pub loop-from-init : goal.loop-from-init
loop-from-init g c =
    let course = c.args.course.now in
    record {
      run =
          subst (λ l. IsUnderWay g.Q.EventQueue.set course.cluster.scenario.now course.division.now 0 c.args.parts.items c.new-rows.result.items l) (sym c.new-kept.ensures.items)
          (subst (λ l. IsUnderWay g.Q.EventQueue.set course.cluster.scenario.now course.division.now 0 c.args.parts.items l []) (sym c.new-rows.ensures.items)
          (not_yet g.Q.EventQueue.set course c.requires.course c.args.parts.items c.requires.opened));
    }

pub returns-in_default-clause-run : goal.returns-in_default-clause-run
returns-in_default-clause-run g c = (ends_here g.Q.EventQueue.set c.args.course.now c.requires.course c.loop-from.parts.items c.loop-from.rows.items c.loop-from.kept.items c.loop-from.from c.loop-from.invariant.run c.deref.result.now c.deref.ensures.value c.in_default.ensures.over).0

pub returns-in_default-clause-lasts : goal.returns-in_default-clause-lasts
returns-in_default-clause-lasts g c = (ends_here g.Q.EventQueue.set c.args.course.now c.requires.course c.loop-from.parts.items c.loop-from.rows.items c.loop-from.kept.items c.loop-from.from c.loop-from.invariant.run c.deref.result.now c.deref.ensures.value c.in_default.ensures.over).1

pub bounded_in_common-requires-clause-first : goal.bounded_in_common-requires-clause-first
bounded_in_common-requires-clause-first g c = subst (λ l. IsFirstMoment g.Q.EventQueue.set l c.args.course.now.end c.in-Some.first) c.deref.ensures.value c.in-Some.ensures.first

pub windows_in_turn-requires-clause-consistent : goal.windows_in_turn-requires-clause-consistent
windows_in_turn-requires-clause-consistent g c = consistent g.Q.EventQueue.set c.args.course.now c.requires.course c.loop-from.parts.items c.loop-from.rows.items c.loop-from.kept.items c.loop-from.from c.loop-from.invariant.run c.in-Some.first c.in_ok-bounded.bounded.items c.in_ok-bounded.ensures

pub windows_in_turn-requires-clause-in_time : goal.windows_in_turn-requires-clause-in_time
windows_in_turn-requires-clause-in_time g c = c.in_ok-bounded.ensures.in_time

pub returns-in_err-done-clause-overflow : goal.returns-in_err-done-clause-overflow
returns-in_err-done-clause-overflow g c = λ h. one_wears g.Q.EventQueue.set c.args.course.now c.requires.course c.loop-from.parts.items c.loop-from.rows.items c.loop-from.kept.items c.loop-from.from c.loop-from.invariant.run c.in-Some.first c.in_ok-bounded.bounded.items c.in_ok-bounded.ensures (c.in_err-done.ensures.overflow (overflow_step c.from_residual-in_err-done.result _ c.from_residual-in_err-done.ensures.1 h))

pub exchanged-requires-clause-came : goal.exchanged-requires-clause-came
exchanged-requires-clause-came g c = λ loans lives. came g.Q.EventQueue.set c.args.course.now c.requires.course c.loop-from.parts.items c.loop-from.rows.items c.loop-from.kept.items c.loop-from.from c.loop-from.invariant.run c.in-Some.first c.in_ok-bounded.bounded.items c.in_ok-bounded.ensures c.in_ok-done.done.items c.in_ok-done.ensures.ok

pub loop-from-smaller : goal.loop-from-smaller
loop-from-smaller g c =
    let on = further g.Q.EventQueue.set c.args.course.now c.requires.course c.loop-from.parts.items c.loop-from.rows.items c.loop-from.kept.items c.loop-from.from c.loop-from.invariant.run c.in-Some.first c.deref.result.now c.deref.ensures.value c.in-Some.ensures.first in
    let up = on.0 in
    let low = on.1 in
    omega (arith, up, low, c.ticks-last.ensures, c.ticks-from.ensures)

pub loop-from-preserved : goal.loop-from-preserved
loop-from-preserved g c =
    let course = c.args.course.now in
    let set = g.Q.EventQueue.set in
    let turned = c.in_ok-turned.turned in
    let on =
    goes_on g.Q.EventQueue.set c.args.course.now c.requires.course c.loop-from.parts.items c.loop-from.rows.items c.loop-from.kept.items c.loop-from.from c.loop-from.invariant.run c.in-Some.first c.in_ok-bounded.bounded.items c.in_ok-bounded.ensures c.in_ok-done.done.items c.in_ok-done.ensures.ok
    turned.parts.items turned.rows.items turned.kept.items c.in_ok-turned.ensures in
    record {
      run =
          subst (λ t. IsUnderWay set course.cluster.scenario.now course.division.now t turned.parts.items c.join.new.all.items turned.kept.items) (omega (arith, c.ticks-from.ensures))
          (subst (λ l. IsUnderWay set course.cluster.scenario.now course.division.now (c.in-Some.first + 1) turned.parts.items l turned.kept.items) (sym c.in_ok-join.ensures.ok) on);
    }

pub returns-clause-run : goal.returns-clause-run
returns-clause-run g c = (ends_past g.Q.EventQueue.set c.args.course.now c.requires.course c.loop-from.parts.items c.loop-from.rows.items c.loop-from.kept.items c.loop-from.from c.loop-from.invariant.run (omega arith)).0

pub returns-clause-lasts : goal.returns-clause-lasts
returns-clause-lasts g c = (ends_past g.Q.EventQueue.set c.args.course.now c.requires.course c.loop-from.parts.items c.loop-from.rows.items c.loop-from.kept.items c.loop-from.from c.loop-from.invariant.run (omega arith)).1
