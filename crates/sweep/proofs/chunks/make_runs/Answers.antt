use Rattle.std.proofs.Common.{◌≡◌, arith, rules, subst}
use Rattle.toml.specs.View.{view}
use Rattle.sweep_plan.specs.Sweep.{seed_count}
use Rattle.sweep.specs.Summaries.{HasCome}
use Rattle.run_output.proofs.Faults.{on_err}
use Rattle.sweep.proofs.Steps.{have_begun}
use Rattle.sweep.proofs.chunks.make_runs.Goals as goal

pub loop-next-preserved : goal.loop-next-preserved
loop-next-preserved g c = record {
  low = omega (arith, c.loop-next.invariant.low, c.in_ok-lot.ensures.further);
  within = c.in_ok-lot.ensures.bounded;
  come = λ course keyed come. c.in_ok-make_some.ensures.whole course keyed (c.loop-next.invariant.come course keyed come);
  same = search rules;
}

pub returns-clause-whole : goal.returns-clause-whole
returns-clause-whole g c = λ course keyed come.
    let plan = c.args.plan.now in
    let all : c.loop-next.next ≡ c.args.till = omega (arith, c.loop-next-test.false, c.loop-next.invariant.within) in
    subst (HasCome (view c.args.document.now) plan course (g.S.Sink.held c.loop-next.table) (g.G.Gather.has c.loop-next.gathering (seed_count plan.seeds))) all
    (c.loop-next.invariant.come course keyed come)

pub returns-in_err-lot-clause-part : goal.returns-in_err-lot-clause-part
returns-in_err-lot-clause-part g c =
    on_err c.from_residual.result
    (λ course keyed high come. have_begun (view c.args.document.now) c.args.plan.now course (g.S.Sink.held c.loop-next.table) c.loop-next.next
    (omega (arith, high, c.loop-next.invariant.within)) (c.loop-next.invariant.come course keyed come).lines)

pub returns-in_err-make_some-clause-part : goal.returns-in_err-make_some-clause-part
returns-in_err-make_some-clause-part g c =
    on_err c.from_residual-in_err-make_some.result
    (λ course keyed high come. c.in_err-make_some.ensures.part course keyed (omega (arith, high, c.in_ok-lot.ensures.bounded)) (c.loop-next.invariant.come course keyed come))
