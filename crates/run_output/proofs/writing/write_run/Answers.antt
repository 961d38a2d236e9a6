-- the sinks get the trace and the report of one list of rows; what is written out here fails at once where a body does something else
use Rattle.std.proofs.Common.{◌≢◌, ◌∙◌, IfOk, IfErr, rules, arith, inl, inr, sym, subst, refl}
use Rattle.base.specs.declared.fault.Fault.TheVariants.{Write, ThreadLost}
use Rattle.trace.proofs.Beginnings.{Keeps-same}
use Rattle.member_laws.specs.Runs.{IsRunOf}
use Rattle.reports.proofs.Faults.{handed_on}
use Rattle.run_output.proofs.Faults.{told, none_told}
use Rattle.run_output.proofs.Failing.{answered, write_fails, nothing_fails, never_overflow, never_relay, breaks_off}
use Rattle.run_output.proofs.Runs.{writes_nothing}
use Rattle.run_output.proofs.writing.write_run.Goals as goal

pub returns-in_err-rows-clause-promise : goal.returns-in_err-rows-clause-promise
returns-in_err-rows-clause-promise g c =
    let no_writes = subst (λ o. IfErr o (λ fault. (fault ≢ Write) × (fault ≢ ThreadLost))) c.in_err-rows.was c.requires.no_writes in
    breaks_off g.A.Sink.held g.A.Sink.failed g.B.Sink.held g.B.Sink.failed c.args.scenario.now _ _ _ _ _ _ c.from_residual.ensures.1
    (writes_nothing c.args.scenario.now _ _ c.requires.sound) (λ h. refl) (λ is. absurd (no_writes.0 is)) (λ h. refl)

pub returns-in_err-rows-clause-fault : goal.returns-in_err-rows-clause-fault
returns-in_err-rows-clause-fault g c = told _ _ _ c.in_err-rows.was c.from_residual.ensures.1

pub returns-in_err-rows-clause-overflow : goal.returns-in_err-rows-clause-overflow
returns-in_err-rows-clause-overflow g c = λ h. c.requires.overflow (c.in_err-rows.was ∙ handed_on _ _ _ c.from_residual.ensures.1 h)

pub returns-in_err-write_trace-clause-promise : goal.returns-in_err-write_trace-clause-promise
returns-in_err-write_trace-clause-promise g c =
    breaks_off g.A.Sink.held g.A.Sink.failed g.B.Sink.held g.B.Sink.failed c.args.scenario.now _ _ _ _ _ _ c.from_residual-in_err-write_trace.ensures.1
    (record {
      rows = c.in_ok-rows.rows.items;
      run = subst (λ o. IfOk o (λ rows. IsRunOf c.args.scenario.now rows.items)) c.in_ok-rows.was c.requires.run;
      written = inl (rw (sym c.deref.ensures.value) c.in_err-write_trace.ensures.part, Keeps-same _);
    })
    (λ h. refl) (λ is. let one = write_fails _ is in inl (omega (arith, one, c.in_err-write_trace.ensures.failures))) (λ h. refl)

pub returns-in_err-write_trace-clause-fault : goal.returns-in_err-write_trace-clause-fault
returns-in_err-write_trace-clause-fault g c = none_told _ _ _ c.in_ok-rows.was

pub returns-in_err-write_trace-clause-overflow : goal.returns-in_err-write_trace-clause-overflow
returns-in_err-write_trace-clause-overflow g c = λ h. absurd (never_overflow _ _ c.from_residual-in_err-write_trace.ensures.1 h)

pub returns-in_err-write_trace-clause-others : goal.returns-in_err-write_trace-clause-others
returns-in_err-write_trace-clause-others g c =
    answered (λ fault. fault ≢ Write → _) _ _ c.from_residual-in_err-write_trace.ensures.1
    (λ differs. let none = nothing_fails _ differs in omega (arith, none, c.in_err-write_trace.ensures.failures))

pub returns-in_err-write_trace-clause-relay : goal.returns-in_err-write_trace-clause-relay
returns-in_err-write_trace-clause-relay g c = never_relay _ _ c.from_residual-in_err-write_trace.ensures.1

pub returns-in_err-write_report-clause-promise : goal.returns-in_err-write_report-clause-promise
returns-in_err-write_report-clause-promise g c =
    breaks_off g.A.Sink.held g.A.Sink.failed g.B.Sink.held g.B.Sink.failed c.args.scenario.now _ _ _ _ _ _ c.from_residual-in_err-write_report.ensures.1
    (record {
      rows = c.in_ok-rows.rows.items;
      run = subst (λ o. IfOk o (λ rows. IsRunOf c.args.scenario.now rows.items)) c.in_ok-rows.was c.requires.run;
      written = inr (rw (sym c.deref.ensures.value) c.in_ok-write_trace.ensures.whole, rw (sym c.deref-2.ensures.value) c.in_err-write_report.ensures.part);
    })
    (λ h. absurd (omega (arith, h, c.in_ok-write_trace.ensures.failures)))
    (λ is. let one = write_fails _ is in inr (omega (arith, one, c.in_err-write_report.ensures.failures)))
    (λ differs. let none = nothing_fails _ differs in omega (arith, none, c.in_err-write_report.ensures.failures))

pub returns-in_err-write_report-clause-fault : goal.returns-in_err-write_report-clause-fault
returns-in_err-write_report-clause-fault g c = none_told _ _ _ c.in_ok-rows.was

pub returns-in_err-write_report-clause-overflow : goal.returns-in_err-write_report-clause-overflow
returns-in_err-write_report-clause-overflow g c = λ h. absurd (never_overflow _ _ c.from_residual-in_err-write_report.ensures.1 h)

pub returns-in_err-write_report-clause-others : goal.returns-in_err-write_report-clause-others
returns-in_err-write_report-clause-others g c =
    answered (λ fault. fault ≢ Write → _) _ _ c.from_residual-in_err-write_report.ensures.1 (λ differs. omega (arith, c.in_ok-write_trace.ensures.failures))

pub returns-in_err-write_report-clause-relay : goal.returns-in_err-write_report-clause-relay
returns-in_err-write_report-clause-relay g c = never_relay _ _ c.from_residual-in_err-write_report.ensures.1

pub returns-clause-promise : goal.returns-clause-promise
returns-clause-promise g c = record {
  written = record {
    rows = c.in_ok-rows.rows.items;
    run = subst (λ o. IfOk o (λ rows. IsRunOf c.args.scenario.now rows.items)) c.in_ok-rows.was c.requires.run;
    counted = search rules fits 100;
    trace = rw (sym c.deref.ensures.value) c.in_ok-write_trace.ensures.whole;
    report = rw (sym c.deref-2.ensures.value) c.in_ok-write_report.ensures.whole;
  };
  beginning = tt;
  first = λ h. absurd (omega (arith, h, c.in_ok-write_trace.ensures.failures));
  lasts = search rules;
  write = search rules;
  whole = omega (arith, c.in_ok-write_trace.ensures.failures);
  whole_report = omega (arith, c.in_ok-write_report.ensures.failures);
  others_report = tt;
}

pub returns-clause-fault : goal.returns-clause-fault
returns-clause-fault g c = none_told _ _ _ c.in_ok-rows.was
