-- the sinks get the trace and the report of one list of rows
use Rattle.std.proofs.Common.{◌≢◌, ◌∙◌, ◌<◌, ◌^◌, inl, inr, Err, OnOk, IfOk, All, ap, sym, subst, refl, rules, arith}
use Rattle.std.proofs.lemmas.Result.{IfErr-at_err}
use Rattle.base.specs.declared.fault.Fault.TheVariants.{Write, ThreadLost}
use Rattle.trace.specs.Text.{NamesMembers, trace_text}
use Rattle.trace.proofs.Beginnings.{beginning-whole, Appends-kept, Keeps-same}
use Rattle.reports.proofs.Faults.{handed_on}
use Rattle.run_output.specs.Traced.{KeepsTrace}
use Rattle.run_output.proofs.Faults.{told, none_told}
use Rattle.run_output.proofs.Failing.{answered, write_fails, nothing_fails, never_overflow, never_relay, breaks_off, summed_err}
use Rattle.run_output.proofs.ending.end_run.Goals as goal

pub flush-requires : goal.flush-requires
flush-requires g c = record { countable = subst (λ o. OnOk o (g.A.Sink.failed c.args.trace.now < 2 ^ 63)) c.in_ok-tallies.was c.requires.countable }

pub write_tallied-requires-clause-named : goal.write_tallied-requires-clause-named
write_tallied-requires-clause-named g c = subst (λ o. IfOk o (All (NamesMembers c.args.scenario.now))) c.in_ok-tallies.was c.requires.named

pub returns-in_err-tallies-clause-promise : goal.returns-in_err-tallies-clause-promise
returns-in_err-tallies-clause-promise g c = λ first so_far.
    let kept = subst (KeepsTrace c.args.scenario.now (g.A.Sink.held first) (g.A.Sink.held c.args.trace.now) (g.A.Sink.failed first) (g.A.Sink.failed c.args.trace.now)) c.in_err-tallies.was so_far in
    breaks_off g.A.Sink.held g.A.Sink.failed g.B.Sink.held g.B.Sink.failed c.args.scenario.now _ _ _ _ _ _ (summed_err _ _ c.from_residual.ensures.1)
    (record { rows = kept.part.rows; run = kept.part.run; written = inl (kept.part.written, Keeps-same _) })
    (λ h. refl) (λ is. inl (kept.write (ap Err is))) (λ h. refl)

pub returns-in_err-tallies-clause-fault : goal.returns-in_err-tallies-clause-fault
returns-in_err-tallies-clause-fault g c = told _ _ _ c.in_err-tallies.was c.from_residual.ensures.1

pub returns-in_err-tallies-clause-overflow : goal.returns-in_err-tallies-clause-overflow
returns-in_err-tallies-clause-overflow g c = λ h. c.in_err-tallies.was ∙ handed_on _ _ _ c.from_residual.ensures.1 h

pub returns-in_err-tallies-clause-relay : goal.returns-in_err-tallies-clause-relay
returns-in_err-tallies-clause-relay g c = λ h. c.in_err-tallies.was ∙ handed_on _ _ _ c.from_residual.ensures.1 h

pub returns-in_err-flush-clause-promise : goal.returns-in_err-flush-clause-promise
returns-in_err-flush-clause-promise g c = λ first so_far.
    let kept = subst (KeepsTrace c.args.scenario.now (g.A.Sink.held first) (g.A.Sink.held c.args.trace.now) (g.A.Sink.failed first) (g.A.Sink.failed c.args.trace.now)) c.in_ok-tallies.was so_far in
    let rows = c.in_ok-tallies.tallies in
    let none = kept.unfailed in
    breaks_off g.A.Sink.held g.A.Sink.failed g.B.Sink.held g.B.Sink.failed c.args.scenario.now _ _ _ _ _ _ (summed_err _ _ c.from_residual-in_err-flush.ensures.1)
    (record {
      rows = rows;
      run = kept.run;
      written = inl (beginning-whole _ _ (trace_text c.args.scenario.now rows) (Appends-kept _ _ _ (trace_text c.args.scenario.now rows) kept.whole c.in_err-flush.ensures.same), Keeps-same _);
    })
    (λ h. refl) (λ is. let one = write_fails _ is in inl (omega (arith, one, none, c.in_err-flush.ensures.failures))) (λ h. refl)

pub returns-in_err-flush-clause-fault : goal.returns-in_err-flush-clause-fault
returns-in_err-flush-clause-fault g c = none_told _ _ _ c.in_ok-tallies.was

pub returns-in_err-flush-clause-overflow : goal.returns-in_err-flush-clause-overflow
returns-in_err-flush-clause-overflow g c = λ h. absurd (never_overflow _ _ c.from_residual-in_err-flush.ensures.1 h)

pub returns-in_err-flush-clause-relay : goal.returns-in_err-flush-clause-relay
returns-in_err-flush-clause-relay g c = λ h. absurd (IfErr-at_err (λ f. f ≢ ThreadLost) h (never_relay _ _ c.from_residual-in_err-flush.ensures.1) refl)

pub returns-in_err-flush-clause-others : goal.returns-in_err-flush-clause-others
returns-in_err-flush-clause-others g c =
    answered (λ fault. fault ≢ Write → _) _ _ c.from_residual-in_err-flush.ensures.1
    (λ differs. let none = nothing_fails _ differs in omega (arith, none, c.in_err-flush.ensures.failures))

pub returns-in_err-write_tallied-clause-promise : goal.returns-in_err-write_tallied-clause-promise
returns-in_err-write_tallied-clause-promise g c = λ first so_far.
    let kept = subst (KeepsTrace c.args.scenario.now (g.A.Sink.held first) (g.A.Sink.held c.args.trace.now) (g.A.Sink.failed first) (g.A.Sink.failed c.args.trace.now)) c.in_ok-tallies.was so_far in
    let rows = c.in_ok-tallies.tallies in
    let unfailed = kept.unfailed in
    breaks_off g.A.Sink.held g.A.Sink.failed g.B.Sink.held g.B.Sink.failed c.args.scenario.now _ _ _ _ _ _ (summed_err _ _ c.from_residual-in_err-write_tallied.ensures.1)
    (record {
      rows = rows;
      run = kept.run;
      written = inr (Appends-kept _ _ _ (trace_text c.args.scenario.now rows) kept.whole c.in_ok-flush.ensures.same, c.in_err-write_tallied.ensures.part);
    })
    (λ h. absurd (omega (arith, h, unfailed, c.in_ok-flush.ensures.failures)))
    (λ is. let one = write_fails _ is in inr (omega (arith, one, c.in_err-write_tallied.ensures.failures)))
    (λ differs. let none = nothing_fails _ differs in omega (arith, none, c.in_err-write_tallied.ensures.failures))

pub returns-in_err-write_tallied-clause-fault : goal.returns-in_err-write_tallied-clause-fault
returns-in_err-write_tallied-clause-fault g c = none_told _ _ _ c.in_ok-tallies.was

pub returns-in_err-write_tallied-clause-overflow : goal.returns-in_err-write_tallied-clause-overflow
returns-in_err-write_tallied-clause-overflow g c = λ h. absurd (never_overflow _ _ c.from_residual-in_err-write_tallied.ensures.1 h)

pub returns-in_err-write_tallied-clause-relay : goal.returns-in_err-write_tallied-clause-relay
returns-in_err-write_tallied-clause-relay g c = λ h. absurd (IfErr-at_err (λ f. f ≢ ThreadLost) h (never_relay _ _ c.from_residual-in_err-write_tallied.ensures.1) refl)

pub returns-in_err-write_tallied-clause-others : goal.returns-in_err-write_tallied-clause-others
returns-in_err-write_tallied-clause-others g c =
    answered (λ fault. fault ≢ Write → _) _ _ c.from_residual-in_err-write_tallied.ensures.1 (λ differs. omega (arith, c.in_ok-flush.ensures.failures))

pub returns-clause-promise : goal.returns-clause-promise
returns-clause-promise g c = λ first so_far.
    let kept = subst (KeepsTrace c.args.scenario.now (g.A.Sink.held first) (g.A.Sink.held c.args.trace.now) (g.A.Sink.failed first) (g.A.Sink.failed c.args.trace.now)) c.in_ok-tallies.was so_far in
    let rows = c.in_ok-tallies.tallies in
    let none = kept.unfailed in
    record {
      written = record {
        rows = rows;
        run = kept.run;
        counted = refl;
        trace = Appends-kept _ _ _ (trace_text c.args.scenario.now rows) kept.whole c.in_ok-flush.ensures.same;
        report = c.in_ok-write_tallied.ensures.whole;
      };
      beginning = tt;
      first = λ h. absurd (omega (arith, h, none, c.in_ok-flush.ensures.failures));
      lasts = kept.lasts;
      write = search rules;
      whole = omega (arith, none, c.in_ok-flush.ensures.failures);
      whole_report = omega (arith, c.in_ok-write_tallied.ensures.failures);
      others_report = tt;
    }

pub returns-clause-came : goal.returns-clause-came
returns-clause-came g c = sym c.in_ok-tallies.was

pub returns-clause-fault : goal.returns-clause-fault
returns-clause-fault g c = none_told _ _ _ c.in_ok-tallies.was
