-- what the file holds of a run that was done, and of one that broke off
use Rattle.std.proofs.Common.{◌∙◌, ◌<◌, Result, Err, IfErr, ap, subst}
use Rattle.base.specs.declared.fault.Fault.{Fault}
use Rattle.run_output.specs.declared.summary.Summary.{Summary}
use Rattle.scenario_files.proofs.Held.{each_err, each_ok, told_done, told_failed}
use Rattle.run_command.specs.Outcomes.{EndsWithCause, MayEndRun}
use Rattle.run_command.proofs.Counted.{fresh_under, not_nowhere, one_grew, one_kept, told_whole}
use Rattle.run_command.proofs.Stored.{trace_begun, trace_stored}
use Rattle.run_command.proofs.storing.store_trace.Goals as goal

pub returns-clause-done : goal.returns-clause-done
returns-clause-done g c =
    let known = g.F.Files.known in
    let run = c.run_plain-made in
    told_done _ run.result.2 c.run_result.result c.run_result.ensures (each_ok run.result.2 run.ensures.promise.written (λ summary writes.
    trace_stored c.args.prepared.now.scenario (known c.args.files.now) (known c.make.new.self) (known c.close.new.self) c.args.words.trace.now _ _ _ _
    c.in-Ok.ensures.others c.close.ensures.others c.in-Ok.ensures.empty (fresh_under g.F.Made.Write.contents (known c.args.files.now c.args.words.trace.now) _ _ c.new-made.ensures.writer c.in-Ok.ensures.made) c.close.ensures.closed summary.rows writes))

pub returns-clause-failed : goal.returns-clause-failed
returns-clause-failed g c =
    let known = g.F.Files.known in
    let run = c.run_plain-made in
    let refused = g.F.Files.refused in
    let ends_by = MayEndRun c.args.prepared.now.scenario (g.M.Simulator.loses c.args.prepared.now.workers) in
    let ends = EndsWithCause (refused c.args.files.now < refused c.close.new.self) ends_by in
    told_failed _ run.result.2 c.run_result.result c.run_result.ensures (each_err run.result.2 run.ensures.promise.beginning (λ cause is begins. (
      c.in-Ok.ensures.apart,
      trace_begun c.args.prepared.now.scenario (known c.args.files.now) (known c.make.new.self) (known c.close.new.self) c.args.words.trace.now _ _ _ _
          c.in-Ok.ensures.others c.close.ensures.others c.in-Ok.ensures.empty (fresh_under g.F.Made.Write.contents (known c.args.files.now c.args.words.trace.now) _ _ c.new-made.ensures.writer c.in-Ok.ensures.made) c.close.ensures.closed ends cause (
            subst (λ (r : Result Summary Fault). IfErr r ends_by) is run.ensures.cause,
            λ e. one_grew _ _ _ _ _ c.in-Ok.ensures.counted c.close.ensures.refused (not_nowhere (run.ensures.promise.write (is ∙ ap Err e))),
          ) begins (λ e. run.ensures.overflow (is ∙ ap Err e)),
    )))

pub returns-clause-whole : goal.returns-clause-whole
returns-clause-whole g c =
    let run = c.run_plain-made in
    told_whole _ _ run.result.2 c.run_result.result c.run_result.ensures run.ensures.promise.whole (λ none. one_kept _ _ _ _ c.in-Ok.ensures.counted c.close.ensures.refused (none ∙ c.new-made.ensures.failures))
