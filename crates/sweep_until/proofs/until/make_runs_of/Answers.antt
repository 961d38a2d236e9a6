use Rattle.std.proofs.Common.{◌≡◌, arith, inr, rules}
use Rattle.toml.specs.View.{view}
use Rattle.run_output.proofs.Faults.{on_err}
use Rattle.sweep_until.proofs.Wide.{begins_so, ends_here, goes_on}
use Rattle.sweep_until.proofs.until.make_runs_of.Goals as goal

pub loop-next-preserved : goal.loop-next-preserved
loop-next-preserved g c = record {
  low = omega (arith, c.loop-next.invariant.low, c.in_ok-reached.ensures.further);
  within = omega (arith, c.in_ok-reached.ensures.bounded, c.in_ok-lot.ensures.bounded);
  goes = λ before course keyed begun.
      goes_on (view c.args.document.now) c.args.plan.now c.args.width before course (g.S.Sink.held c.make_lot.new.table) c.make_lot.new.runs c.in_ok-reached.reached c.is_narrow.result c.is_narrow.ensures c.if-is_narrow.false
      (c.in_ok-reached.ensures.whole before course keyed (c.loop-next.invariant.goes before course keyed begun));
  same = search rules;
}

pub returns-then-is_narrow-clause-whole : goal.returns-then-is_narrow-clause-whole
returns-then-is_narrow-clause-whole g c = λ before course keyed begun.
    ends_here (view c.args.document.now) c.args.plan.now c.args.width before course (g.S.Sink.held c.make_lot.new.table) c.make_lot.new.runs c.in_ok-reached.reached c.is_narrow.result c.is_narrow.ensures c.args.first c.args.past
    (omega (arith, c.loop-next.invariant.low, c.in_ok-reached.ensures.further)) (omega (arith, c.in_ok-reached.ensures.bounded, c.in_ok-lot.ensures.bounded)) c.if-is_narrow.true
    (c.in_ok-reached.ensures.whole before course keyed (c.loop-next.invariant.goes before course keyed begun))

pub returns-clause-whole : goal.returns-clause-whole
returns-clause-whole g c = λ before course keyed begun.
    let all : c.loop-next.next ≡ c.args.past = omega (arith, c.loop-next-test.false, c.loop-next.invariant.within) in
    record {
      next = c.loop-next.next;
      more = omega (arith, all, c.requires.some);
      high = c.loop-next.invariant.within;
      gone = (c.loop-next.invariant.goes before course keyed begun).gone;
      ends = inr all;
    }

pub returns-in_err-lot-clause-part : goal.returns-in_err-lot-clause-part
returns-in_err-lot-clause-part g c =
    on_err c.from_residual.result
    (λ before course keyed high begun. begins_so (view c.args.document.now) c.args.plan.now c.args.width before course (g.S.Sink.held c.loop-next.table) c.loop-next.runs c.loop-next.next
    (omega (arith, high, c.loop-next.invariant.within)) (c.loop-next.invariant.goes before course keyed begun).gone)

pub returns-in_err-reached-clause-part : goal.returns-in_err-reached-clause-part
returns-in_err-reached-clause-part g c =
    on_err c.from_residual-in_err-reached.result
    (λ before course keyed high begun. c.in_err-reached.ensures.part before course keyed (omega (arith, high, c.in_ok-lot.ensures.bounded)) (c.loop-next.invariant.goes before course keyed begun))
