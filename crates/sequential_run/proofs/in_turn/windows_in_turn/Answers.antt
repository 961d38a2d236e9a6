use Rattle.std.proofs.Common.{◌≡◌, ◌+◌, ◌≤◌, ◌++◌, ◌∷◌, [], min, append_assoc, ap, ◌∙◌, sym, subst, arith}
use Rattle.std.specs.List.{AllByRecursion}
use Rattle.windows.specs.WorldOf.{world_of}
use Rattle.windows.specs.Window.{IsConsistentPart, RunsWindow}
use Rattle.windows.specs.Wears.{OverflowsInWindow}
use Rattle.windows.specs.Several.{RanWindows}
use Rattle.turns.proofs.Turning.{one_window_more}
use Rattle.reports.proofs.Faults.{handed_on}
use Rattle.sequential_run.proofs.in_turn.windows_in_turn.Goals as goal

pub run-requires-clause-consistent : goal.run-requires-clause-consistent
run-requires-clause-consistent g c =
    (subst (AllByRecursion (λ b. IsConsistentPart c.args.course.now.cluster.scenario.now (world_of g.Q.EventQueue.set b.part))) c.in-Some.ensures.steps.0 c.loop-bounded.invariant.consistent).0

pub returns-in_err-done-clause-overflow : goal.returns-in_err-done-clause-overflow
returns-in_err-done-clause-overflow g c = λ h.
    let one = (subst (AllByRecursion (λ b. b.bound ≤ c.args.course.now.cluster.scenario.now.end + 1)) c.in-Some.ensures.steps.0 c.loop-bounded.invariant.in_time).0 in
    let in_time : min c.in-Some.bounded.bound (c.args.course.now.cluster.scenario.now.end + 1) ≡ c.in-Some.bounded.bound = omega (arith, one) in
    record {
      before = c.loop-bounded.yielded;
      one = c.in-Some.bounded;
      after = c.next.new.self.rest.items;
      there = sym (ap (λ ps. c.loop-bounded.yielded ++ ps) (sym c.in-Some.ensures.steps.0) ∙ c.loop-bounded.invariant.left);
      wears = subst (λ b. OverflowsInWindow c.args.course.now.cluster.scenario.now b (world_of g.Q.EventQueue.set c.in-Some.bounded.part)) in_time (c.in_err-done.ensures.overflow (handed_on c.from_residual.result _ _ c.from_residual.ensures.1 h));
    }

pub loop-bounded-preserved : goal.loop-bounded-preserved
loop-bounded-preserved g c =
    let s = c.args.course.now.cluster.scenario.now in
    let times = subst (AllByRecursion (λ b. b.bound ≤ s.end + 1)) c.in-Some.ensures.steps.0 c.loop-bounded.invariant.in_time in
    let one = times.0 in
    let in_time : min c.in-Some.bounded.bound (s.end + 1) ≡ c.in-Some.bounded.bound = omega (arith, one) in
    record {
      left =
          append_assoc c.loop-bounded.yielded (c.in-Some.bounded ∷ []) c.next.new.self.rest.items
          ∙ ap (λ ps. c.loop-bounded.yielded ++ ps) (sym c.in-Some.ensures.steps.0) ∙ c.loop-bounded.invariant.left;
      windows =
          subst (RanWindows g.Q.EventQueue.set s (c.loop-bounded.yielded ++ c.in-Some.bounded ∷ [])) (sym c.in_ok-push.ensures.items)
          (one_window_more g.Q.EventQueue.set s c.loop-bounded.yielded c.loop-bounded.all.items c.in-Some.bounded c.in_ok-done.done c.loop-bounded.invariant.windows (
            subst (λ b. RunsWindow s b (world_of g.Q.EventQueue.set c.in-Some.bounded.part) c.in_ok-done.done.out.items c.in_ok-done.done.rows.items (world_of g.Q.EventQueue.set c.in_ok-done.done.part)) in_time c.in_ok-done.ensures.ok,
            c.in_ok-done.ensures.number,
          ));
      in_time = times.1;
      consistent = (subst (AllByRecursion (λ b. IsConsistentPart s (world_of g.Q.EventQueue.set b.part))) c.in-Some.ensures.steps.0 c.loop-bounded.invariant.consistent).1;
    }
