use Rattle.std.proofs.Common.{IfErr, ◌∙◌, sym, subst}
use Rattle.run_output.specs.Promise.{KeepsPromise}
use Rattle.run_command.specs.Outcomes.{MayEndRun}
use Rattle.run_command.proofs.Ending.{may_end, may_end_summed, summed_overflow}
use Rattle.run_command.proofs.simulating.run_plain.Goals as goal

pub returns-clause-promise : goal.returns-clause-promise
returns-clause-promise g c =
    subst (KeepsPromise g.A.Sink.held g.A.Sink.failed g.B.Sink.held g.B.Sink.failed c.args.prepared.now.scenario c.args.trace c.simulate-outcome.new.place.trace c.args.report c.simulate-outcome.new.report)
    (sym c.summary_of.ensures) c.simulate-outcome.ensures.promise

pub returns-clause-cause : goal.returns-clause-cause
returns-clause-cause g c =
    let s = c.args.prepared.now.scenario in
    let Loses = g.M.Simulator.loses c.args.prepared.now.workers in
    let run = c.simulate-outcome in
    subst (λ r. IfErr r (MayEndRun s Loses)) (sym c.summary_of.ensures) (may_end_summed s Loses run.result (may_end s Loses run.result run.ensures.overflow run.ensures.threads))

pub returns-clause-overflow : goal.returns-clause-overflow
returns-clause-overflow g c = λ is. c.simulate-outcome.ensures.overflow (summed_overflow c.simulate-outcome.result (sym c.summary_of.ensures ∙ is))
