use Rattle.std.proofs.Common.{◌≡◌, ◌∙◌, ◌+◌, ◌-◌, ◌++◌, ◌∷◌, [], refl, subst, length, length-append, arith, rules}
use Rattle.std.specs.List.{AllZip, range_with_len}
use Rattle.toml.specs.View.{view}
use Rattle.sweep_plan.specs.Sweep.{run_count, seed_count}
use Rattle.sweep.specs.Table.{IsMadeOf, IsMadeRun}
use Rattle.sweep.specs.Summaries.{HasCome}
use Rattle.run_output.proofs.Faults.{on_err}
use Rattle.sweep.proofs.Numbers.{is_next, none_left}
use Rattle.sweep.proofs.Sharing.{within_all}
use Rattle.sweep.proofs.Steps.{cause_fails_none, cause_handed, have_begun, line_part, line_whole}
use Rattle.sweep.proofs.chunks.make_some.Goals as goal

pub make_side_by_side-requires-clause-within : goal.make_side_by_side-requires-clause-within
make_side_by_side-requires-clause-within g c _ _ = within_all c.args.from c.args.till (run_count c.args.plan.now) c.args.shares.now c.requires.within c.requires.shared

pub returns-in_err-runs-clause-part : goal.returns-in_err-runs-clause-part
returns-in_err-runs-clause-part g c =
    on_err c.from_residual.result
    (λ course keyed high come. have_begun (view c.args.document.now) c.args.plan.now course (g.S.Sink.held c.args.table.now) c.args.from
    (omega (arith, high, c.requires.ordered)) come.lines)

pub returns-in_err-run-clause-part : goal.returns-in_err-run-clause-part
returns-in_err-run-clause-part g c =
    on_err c.from_residual-in_err-run.result
    (λ course keyed high come. have_begun (view c.args.document.now) c.args.plan.now course (g.S.Sink.held c.loop-made.table) (c.args.from + length c.loop-made.yielded)
    (omega (arith, high, c.loop-made.invariant.within)) (c.loop-made.invariant.come course keyed come).lines)

pub returns-in_err-run-clause-causes : goal.returns-in_err-run-clause-causes
returns-in_err-run-clause-causes g c =
    let tree = view c.args.document.now in
    let plan = c.args.plan.now in
    let R = IsMadeOf tree plan c.args.key.now in
    let till = c.args.till in
    let number = c.args.from + length c.loop-made.yielded in
    let next = is_next R number till c.in-Some.made c.next.new.self.rest.items _ c.in-Some.ensures.steps.0 c.loop-made.invariant.left in
    cause_handed tree plan number _ c.from_residual-in_err-run.result c.from_residual-in_err-run.ensures.1 (subst (R number) c.in_err-run.was next.here)

pub returns-in_err-run-clause-failures : goal.returns-in_err-run-clause-failures
returns-in_err-run-clause-failures g c =
    let tree = view c.args.document.now in
    let plan = c.args.plan.now in
    let R = IsMadeOf tree plan c.args.key.now in
    let till = c.args.till in
    let number = c.args.from + length c.loop-made.yielded in
    let next = is_next R number till c.in-Some.made c.next.new.self.rest.items _ c.in-Some.ensures.steps.0 c.loop-made.invariant.left in
    c.loop-made.invariant.same
    ∙ cause_fails_none tree plan number _ c.from_residual-in_err-run.result (g.S.Sink.failed c.args.table.now) c.from_residual-in_err-run.ensures.1 (subst (R number) c.in_err-run.was next.here)

pub returns-in_err-write_line-clause-part : goal.returns-in_err-write_line-clause-part
returns-in_err-write_line-clause-part g c =
    let tree = view c.args.document.now in
    let plan = c.args.plan.now in
    let R = IsMadeOf tree plan c.args.key.now in
    let till = c.args.till in
    let number = c.args.from + length c.loop-made.yielded in
    let next = is_next R number till c.in-Some.made c.next.new.self.rest.items _ c.in-Some.ensures.steps.0 c.loop-made.invariant.left in
    let is : IsMadeRun tree plan c.args.key.now number c.in_ok-run.run' = subst (R number) c.in_ok-run.was next.here in
    on_err c.from_residual-in_err-write_line.result (λ course keyed high come.
    line_part tree plan c.args.key.now number c.in_ok-run.run' is course keyed (g.S.Sink.held c.loop-made.table) (g.S.Sink.held c.write_line.new.table)
    (omega (arith, high, next.low)) c.in_err-write_line.ensures.part (c.loop-made.invariant.come course keyed come).lines)

pub loop-made-init : goal.loop-made-init
loop-made-init g c =
    let tree = view c.args.document.now in
    let plan = c.args.plan.now in
    let R = IsMadeOf tree plan c.args.key.now in
    let till = c.args.till in
    let none : c.args.from ≡ c.args.from + 0 = omega arith in
    record {
      within = omega (arith, c.requires.ordered);
      left = subst (λ n. AllZip R (range_with_len n (c.args.till - n)) c.into_iter-made-iterator.result.rest.items) none
          (subst (λ l. AllZip R l c.into_iter-made-iterator.result.rest.items) c.requires.shared.whole (search rules));
      come = λ course keyed come. subst (HasCome tree plan course (g.S.Sink.held c.args.table.now) (g.G.Gather.has c.args.gathering.now (seed_count plan.seeds))) none come;
      same = refl;
    }

pub loop-made-preserved : goal.loop-made-preserved
loop-made-preserved g c =
    let tree = view c.args.document.now in
    let plan = c.args.plan.now in
    let R = IsMadeOf tree plan c.args.key.now in
    let till = c.args.till in
    let yielded = c.loop-made.yielded in
    let number = c.args.from + length yielded in
    let made = c.in-Some.made in
    let left = c.next.new.self.rest.items in
    let each = seed_count plan.seeds in
    let old = g.S.Sink.held c.loop-made.table in
    let new = g.S.Sink.held c.write_line.new.table in
    let Before = g.G.Gather.has c.loop-made.gathering each in
    let After = g.G.Gather.has c.write_line.new.gathering each in
    let next = is_next R number till made left _ c.in-Some.ensures.steps.0 c.loop-made.invariant.left in
    let is : IsMadeRun tree plan c.args.key.now number c.in_ok-run.run' = subst (R number) c.in_ok-run.was next.here in
    let more : number + 1 ≡ c.args.from + length (yielded ++ made ∷ []) = omega (arith, length-append yielded (made ∷ [])) in
    record {
      within = omega (arith, more, next.low);
      left = subst (λ n. AllZip R (range_with_len n (till - n)) left) more next.rest;
      come = λ course keyed come.
          subst (HasCome tree plan course new After) more
          (line_whole tree plan c.args.key.now number c.in_ok-run.run' is course keyed old new Before After c.in_ok-write_line.ensures.whole
          (λ notes before. c.in_ok-write_line.ensures.gathered each notes before) (c.loop-made.invariant.come course keyed come));
      same = search rules;
    }

pub returns-clause-whole : goal.returns-clause-whole
returns-clause-whole g c = λ course keyed come.
    let tree = view c.args.document.now in
    let plan = c.args.plan.now in
    let R = IsMadeOf tree plan c.args.key.now in
    let till = c.args.till in
    let number = c.args.from + length c.loop-made.yielded in
    let past = none_left R number till c.loop-made.made-iterator.rest.items (omega (arith, c.in-None.ensures.steps.0)) c.loop-made.invariant.left in
    let all : number ≡ till = omega (arith, past, c.loop-made.invariant.within) in
    subst (HasCome tree plan course (g.S.Sink.held c.loop-made.table) (g.G.Gather.has c.loop-made.gathering (seed_count plan.seeds))) all
    (c.loop-made.invariant.come course keyed come)
