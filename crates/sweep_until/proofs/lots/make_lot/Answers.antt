use Rattle.std.proofs.Common.{◌∙◌, ◌+◌, ◌++◌, refl, subst, arith, rules}
use Rattle.std.specs.List.{AllZip}
use Rattle.toml.specs.View.{view}
use Rattle.sweep_plan.specs.Sweep.{run_count}
use Rattle.sweep.specs.Table.{IsMadeOf, IsMadeRun}
use Rattle.run_output.proofs.Faults.{on_err}
use Rattle.sweep.proofs.Numbers.{is_next, none_left}
use Rattle.sweep.proofs.Sharing.{within_all}
use Rattle.sweep.proofs.Steps.{cause_fails_none, cause_handed, line_part, line_whole}
use Rattle.sweep_until.specs.Kept.{AreKept}
use Rattle.sweep_until.proofs.Counted.{kept_behind}
use Rattle.sweep_until.proofs.Wide.{begins_next, begins_so, ended_before, goes_next, goes_on, up_till}
use Rattle.sweep_until.proofs.lots.make_lot.Goals as goal

pub make_side_by_side-requires-clause-within : goal.make_side_by_side-requires-clause-within
make_side_by_side-requires-clause-within g c _ _ = within_all c.args.from c.args.till (run_count c.args.plan.now) c.args.shares.now c.requires.within c.requires.shared

pub loop-made-init : goal.loop-made-init
loop-made-init g c =
    let R = IsMadeOf (view c.args.document.now) c.args.plan.now c.args.key.now in
    record {
      low = omega arith;
      within = omega (arith, c.requires.some);
      left = subst (λ l. AllZip R l c.into_iter-made-iterator.result.rest.items) c.requires.shared.whole (search rules);
      goes = λ before course keyed goes. goes;
      same = refl;
    }

pub returns-in_err-lot-clause-part : goal.returns-in_err-lot-clause-part
returns-in_err-lot-clause-part g c =
    on_err c.from_residual.result
    (λ before course keyed high goes. begins_so (view c.args.document.now) c.args.plan.now c.args.width before course (g.S.Sink.held c.args.table.now) c.args.runs.now c.args.from
    (omega (arith, high, c.requires.some)) goes.gone)

pub returns-in_err-run-clause-part : goal.returns-in_err-run-clause-part
returns-in_err-run-clause-part g c =
    on_err c.from_residual-in_err-run.result
    (λ before course keyed high goes. begins_so (view c.args.document.now) c.args.plan.now c.args.width before course (g.S.Sink.held c.loop-made.table) c.loop-made.runs c.loop-made.past
    (omega (arith, high, c.loop-made.invariant.within)) (c.loop-made.invariant.goes before course keyed goes).gone)

pub returns-in_err-run-clause-causes : goal.returns-in_err-run-clause-causes
returns-in_err-run-clause-causes g c =
    let tree = view c.args.document.now in
    let plan = c.args.plan.now in
    let R = IsMadeOf tree plan c.args.key.now in
    let till = c.args.till in
    let number = c.loop-made.past in
    let next = is_next R number till c.in-Some.made c.next.new.self.rest.items _ c.in-Some.ensures.steps.0 c.loop-made.invariant.left in
    cause_handed tree plan number _ c.from_residual-in_err-run.result c.from_residual-in_err-run.ensures.1 (subst (R number) c.in_err-run.was next.here)

pub returns-in_err-run-clause-failures : goal.returns-in_err-run-clause-failures
returns-in_err-run-clause-failures g c =
    let tree = view c.args.document.now in
    let plan = c.args.plan.now in
    let R = IsMadeOf tree plan c.args.key.now in
    let till = c.args.till in
    let number = c.loop-made.past in
    let next = is_next R number till c.in-Some.made c.next.new.self.rest.items _ c.in-Some.ensures.steps.0 c.loop-made.invariant.left in
    c.loop-made.invariant.same
    ∙ cause_fails_none tree plan number _ c.from_residual-in_err-run.result (g.S.Sink.failed c.args.table.now) c.from_residual-in_err-run.ensures.1 (subst (R number) c.in_err-run.was next.here)

pub returns-in_err-write_line-clause-part : goal.returns-in_err-write_line-clause-part
returns-in_err-write_line-clause-part g c =
    let tree = view c.args.document.now in
    let plan = c.args.plan.now in
    let R = IsMadeOf tree plan c.args.key.now in
    let till = c.args.till in
    let number = c.loop-made.past in
    let mid = g.S.Sink.held c.loop-made.table in
    let new = g.S.Sink.held c.write_line.new.table in
    let next = is_next R number till c.in-Some.made c.next.new.self.rest.items _ c.in-Some.ensures.steps.0 c.loop-made.invariant.left in
    let is : IsMadeRun tree plan c.args.key.now number c.in_ok-run.run' = subst (R number) c.in_ok-run.was next.here in
    on_err c.from_residual-in_err-write_line.result (λ before course keyed high begun.
    let goes = c.loop-made.invariant.goes before course keyed begun in
    begins_next tree plan c.the_run_is_one.ensures c.requires.judged c.args.width before course mid new c.loop-made.runs number
    (omega (arith, next.low, c.requires.within)) (omega (arith, high, next.low)) goes
    (line_part tree plan c.args.key.now number c.in_ok-run.run' is (up_till course (number + 1)) keyed mid new (omega arith) c.in_err-write_line.ensures.part
    (ended_before tree plan course mid _ number (number + 1) goes.gone.come).lines))

pub loop-made-preserved : goal.loop-made-preserved
loop-made-preserved g c =
    let tree = view c.args.document.now in
    let plan = c.args.plan.now in
    let R = IsMadeOf tree plan c.args.key.now in
    let till = c.args.till in
    let number = c.loop-made.past in
    let mid = g.S.Sink.held c.loop-made.table in
    let new = g.S.Sink.held c.write_line.new.table in
    let kept = c.loop-made.runs in
    let after = c.write_line.new.gathering in
    let next = is_next R number till c.in-Some.made c.next.new.self.rest.items _ c.in-Some.ensures.steps.0 c.loop-made.invariant.left in
    let is : IsMadeRun tree plan c.args.key.now number c.in_ok-run.run' = subst (R number) c.in_ok-run.was next.here in
    record {
      low = omega (arith, c.loop-made.invariant.low);
      within = omega (arith, next.low);
      left = next.rest;
      goes = λ before course keyed begun.
          let goes = c.loop-made.invariant.goes before course keyed begun in
          let come = line_whole tree plan c.args.key.now number c.in_ok-run.run' is course keyed mid new (λ notes. AreKept (before ++ notes) kept) (λ notes. AreKept (before ++ notes) after)
          c.in_ok-write_line.ensures.whole (kept_behind kept after c.in_ok-run.run'.note before (c.in_ok-write_line.ensures.gathered 0)) goes.gone.come in
          goes_on tree plan c.args.width before course new after (number + 1) c.is_narrow.result c.is_narrow.ensures c.if-is_narrow.false
          (goes_next tree plan c.the_run_is_one.ensures c.requires.judged c.args.width before course mid new kept after number (omega (arith, next.low, c.requires.within)) goes come);
      same = search rules;
    }

pub returns-then-is_narrow-clause-whole : goal.returns-then-is_narrow-clause-whole
returns-then-is_narrow-clause-whole g c = λ before course keyed begun.
    let tree = view c.args.document.now in
    let plan = c.args.plan.now in
    let R = IsMadeOf tree plan c.args.key.now in
    let till = c.args.till in
    let number = c.loop-made.past in
    let mid = g.S.Sink.held c.loop-made.table in
    let new = g.S.Sink.held c.write_line.new.table in
    let kept = c.loop-made.runs in
    let after = c.write_line.new.gathering in
    let next = is_next R number till c.in-Some.made c.next.new.self.rest.items _ c.in-Some.ensures.steps.0 c.loop-made.invariant.left in
    let is : IsMadeRun tree plan c.args.key.now number c.in_ok-run.run' = subst (R number) c.in_ok-run.was next.here in
    let goes = c.loop-made.invariant.goes before course keyed begun in
    goes_next tree plan c.the_run_is_one.ensures c.requires.judged c.args.width before course mid new kept after number (omega (arith, next.low, c.requires.within)) goes
    (line_whole tree plan c.args.key.now number c.in_ok-run.run' is course keyed mid new (λ notes. AreKept (before ++ notes) kept) (λ notes. AreKept (before ++ notes) after)
    c.in_ok-write_line.ensures.whole (kept_behind kept after c.in_ok-run.run'.note before (c.in_ok-write_line.ensures.gathered 0)) goes.gone.come)

pub returns-then-is_narrow-clause-bounded : goal.returns-then-is_narrow-clause-bounded
returns-then-is_narrow-clause-bounded g c =
    let R = IsMadeOf (view c.args.document.now) c.args.plan.now c.args.key.now in
    let till = c.args.till in
    let number = c.loop-made.past in
    let next = is_next R number till c.in-Some.made c.next.new.self.rest.items _ c.in-Some.ensures.steps.0 c.loop-made.invariant.left in
    omega (arith, next.low)

pub returns-clause-whole : goal.returns-clause-whole
returns-clause-whole g c = λ before course keyed goes. (c.loop-made.invariant.goes before course keyed goes).gone

pub returns-clause-further : goal.returns-clause-further
returns-clause-further g c =
    let R = IsMadeOf (view c.args.document.now) c.args.plan.now c.args.key.now in
    let till = c.args.till in
    let number = c.loop-made.past in
    let past = none_left R number till c.loop-made.made-iterator.rest.items (omega (arith, c.in-None.ensures.steps.0)) c.loop-made.invariant.left in
    omega (arith, past, c.requires.some)
