use Rattle.std.proofs.Common.{IfErr, subst}
use Rattle.page_runs.proofs.Keeping.{paged, unpaged}
use Rattle.run_command.specs.Outcomes.{MayEndRun}
use Rattle.run_command.proofs.Ending.{may_end_by_others}
use Rattle.run_command.proofs.simulating.run_paged.Goals as goal

pub returns-in-Ok-clause-promise : goal.returns-in-Ok-clause-promise
returns-in-Ok-clause-promise g c =
    let run = c.run_gathered-trace in
    let s = c.args.prepared.now.scenario in
    let wrote = c.write_page-paged.ensures in
    paged g.A.Sink.held g.A.Sink.failed g.B.Sink.held g.B.Sink.failed g.C.Sink.held g.C.Sink.failed c.args.shown.now.tick c.args.shown.now.name.now c.args.shown.now.release.now s
    c.args.trace run.result.0 c.args.report run.result.1 c.args.page c.write_page-paged.new.out run.result.2 c.in-Ok.told c.in-Ok.is run.ensures.promise run.ensures.told
    (λ first second. c.the_run_is_one.ensures s first second c.end-end.ensures.sound)
    c.write_page-paged.result wrote.rows wrote.whole wrote.part wrote.unfailed wrote.write wrote.others

pub returns-in-Err-clause-promise : goal.returns-in-Err-clause-promise
returns-in-Err-clause-promise g c =
    let run = c.run_gathered-trace in
    unpaged g.A.Sink.held g.A.Sink.failed g.B.Sink.held g.B.Sink.failed g.C.Sink.held g.C.Sink.failed c.args.shown.now.tick c.args.shown.now.name.now c.args.shown.now.release.now c.args.prepared.now.scenario
    c.args.trace run.result.0 c.args.report run.result.1 c.args.page run.result.2 c.in-Err.fault c.in-Err.is run.ensures.promise

pub returns-in-Ok-clause-cause : goal.returns-in-Ok-clause-cause
returns-in-Ok-clause-cause g c = may_end_by_others c.args.prepared.now.scenario (g.M.Simulator.loses c.args.prepared.now.workers) c.write_page-paged.result c.write_page-paged.ensures.causes

pub returns-in-Err-clause-cause : goal.returns-in-Err-clause-cause
returns-in-Err-clause-cause g c = subst (λ r. IfErr r (MayEndRun c.args.prepared.now.scenario (g.M.Simulator.loses c.args.prepared.now.workers))) c.in-Err.is c.run_gathered-trace.ensures.cause
