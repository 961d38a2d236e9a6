use Rattle.std.proofs.Common.{IfErr, subst}
use Rattle.base.proofs.Faults.{memory≢overflow, memory≢relay}
use Rattle.page_runs.proofs.Keeping.{unbegun}
use Rattle.run_command.specs.Outcomes.{MayEndRun}
use Rattle.run_command.proofs.Ending.{may_end}
use Rattle.run_command.proofs.simulating.run_gathered.Goals as goal

pub returns-in-Err-clause-promise : goal.returns-in-Err-clause-promise
returns-in-Err-clause-promise g c =
    unbegun g.A.Sink.held g.A.Sink.failed g.B.Sink.held g.B.Sink.failed c.args.prepared.now.scenario c.args.trace c.args.report c.end-end.ensures.sound

pub returns-in-Err-clause-cause : goal.returns-in-Err-clause-cause
returns-in-Err-clause-cause g c = (λ is. absurd (memory≢overflow is), λ is. absurd (memory≢relay is))

pub returns-in-Err-outcome-clause-cause : goal.returns-in-Err-outcome-clause-cause
returns-in-Err-outcome-clause-cause g c =
    let s = c.args.prepared.now.scenario in
    let Loses = g.M.Simulator.loses c.args.prepared.now.workers in
    let run = c.simulate-outcome in
    subst (λ r. IfErr r (MayEndRun s Loses)) c.in-Err-outcome.is (may_end s Loses run.result run.ensures.overflow run.ensures.threads)
