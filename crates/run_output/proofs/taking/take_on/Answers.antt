use Rattle.std.proofs.Common.{◌+◌, ◌++◌, ◌∙◌, ap, sym, subst, arith}
use Rattle.reports.proofs.Faults.{is_err}
use Rattle.run_output.specs.Written.{sink_failures, HasWritten}
use Rattle.run_output.proofs.Streaming.{written_on, stays_written}
use Rattle.run_output.proofs.taking.take_on.Goals as goal

pub returns-in_err-so_far-clause-written : goal.returns-in_err-so_far-clause-written
returns-in_err-so_far-clause-written g c = λ before held wrote.
    let s = c.args.scenario.now in
    subst (HasWritten s (before ++ c.args.rows.now) held (g.T.RowSink.held c.args.place.now) c.args.tallies.now) (sym (is_err c.from_residual.result _ c.from_residual.ensures.1))
    (stays_written s before c.args.rows.now held _ _ _ (subst (HasWritten s before held (g.T.RowSink.held c.args.place.now) c.args.tallies.now) c.in_err-so_far.was wrote))

pub returns-in_err-so_far-clause-failures : goal.returns-in_err-so_far-clause-failures
returns-in_err-so_far-clause-failures g c =
    ap (λ o. g.T.RowSink.failed c.args.place.now + sink_failures o) (c.in_err-so_far.was ∙ sym (is_err c.from_residual.result _ c.from_residual.ensures.1))

pub returns-clause-written : goal.returns-clause-written
returns-clause-written g c = λ before held wrote.
    written_on c.args.scenario.now before c.args.rows.now held _ _ _ _ c.take.result
    (subst (HasWritten c.args.scenario.now before held (g.T.RowSink.held c.args.place.now) c.args.tallies.now) c.in_ok-so_far.was wrote)
    c.take.ensures.whole c.take.ensures.tallied c.take.ensures.part c.take.ensures.lasts c.take.ensures.overflow

pub returns-clause-failures : goal.returns-clause-failures
returns-clause-failures g c = let none = ap sink_failures c.in_ok-so_far.was in omega (arith, none, c.take.ensures.failures)
