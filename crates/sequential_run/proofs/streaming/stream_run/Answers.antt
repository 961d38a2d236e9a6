use Rattle.std.proofs.Common.{◌≢◌, [], refl, arith}
use Rattle.base.specs.declared.fault.Fault.TheVariants.{Write}
use Rattle.reports.proofs.Faults.{handed_on}
use Rattle.run_output.proofs.Faults.{on_err}
use Rattle.run_output.proofs.Failing.{answered}
use Rattle.run_output.proofs.Runs.{begins_nothing, some_run}
use Rattle.sequential_run.proofs.Streamed.{begins_trace}
use Rattle.sequential_run.proofs.Faults.{no_failure, on_fault, failures_since}
use Rattle.sequential_run.proofs.streaming.stream_run.Goals as goal

pub returns-in_err-links-clause-part : goal.returns-in_err-links-clause-part
returns-in_err-links-clause-part g c = on_err _ (begins_nothing c.args.scenario.now (g.T.RowSink.held c.args.place.now) c.end-end.ensures.sound)

pub returns-in_err-wheel-clause-part : goal.returns-in_err-wheel-clause-part
returns-in_err-wheel-clause-part g c = on_err _ (begins_nothing c.args.scenario.now (g.T.RowSink.held c.args.place.now) c.end-end.ensures.sound)

pub returns-in_err-part-clause-part : goal.returns-in_err-part-clause-part
returns-in_err-part-clause-part g c = on_err _ (begins_nothing c.args.scenario.now (g.T.RowSink.held c.args.place.now) c.end-end.ensures.sound)

pub returns-in_err-begin-clause-part : goal.returns-in_err-begin-clause-part
returns-in_err-begin-clause-part g c =
    let s = c.args.scenario.now in
    let run = some_run s c.end-end.ensures.sound in
    on_err _ (begins_trace s [] [] _ _ _ (run.0, run.1, (run.0, refl)) (c.in_err-begin.ensures.written s))

pub returns-in_err-begin-clause-overflow : goal.returns-in_err-begin-clause-overflow
returns-in_err-begin-clause-overflow g c = λ h.
    let many = (c.in_err-begin.ensures.written c.args.scenario.now).overflow (handed_on c.from_residual-in_err-begin.result _ _ c.from_residual-in_err-begin.ensures.1 h) in
    absurd (omega (arith, many))

pub returns-clause-whole : goal.returns-clause-whole
returns-clause-whole g c = c.run_stretches.ensures.whole _ (c.in_ok-begin.ensures.written c.args.scenario.now)

pub returns-clause-part : goal.returns-clause-part
returns-clause-part g c = c.run_stretches.ensures.part _ (c.in_ok-begin.ensures.written c.args.scenario.now)

pub run_stretches-requires-clause-none_gathered : goal.run_stretches-requires-clause-none_gathered
run_stretches-requires-clause-none_gathered g c = c.in_ok-begin.ensures.gathered c.args.scenario.now [] c.requires.none_gathered

pub returns-in_err-links-clause-others : goal.returns-in_err-links-clause-others
returns-in_err-links-clause-others g c = on_fault (λ fault. fault ≢ Write) _ refl

pub returns-in_err-wheel-clause-others : goal.returns-in_err-wheel-clause-others
returns-in_err-wheel-clause-others g c = on_fault (λ fault. fault ≢ Write) _ refl

pub returns-in_err-part-clause-others : goal.returns-in_err-part-clause-others
returns-in_err-part-clause-others g c = on_fault (λ fault. fault ≢ Write) _ refl

pub returns-in_err-begin-clause-others : goal.returns-in_err-begin-clause-others
returns-in_err-begin-clause-others g c =
    answered (λ fault. fault ≢ Write → _) _ _ c.from_residual-in_err-begin.ensures.1
    (λ differs. let none = no_failure (Unit {0}) _ differs in omega (arith, none, c.in_err-begin.ensures.failures))

pub returns-clause-others : goal.returns-clause-others
returns-clause-others g c = failures_since c.run_stretches.result _ _ _ (omega (arith, c.in_ok-begin.ensures.failures)) c.run_stretches.ensures.others
