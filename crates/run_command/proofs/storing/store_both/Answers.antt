-- what the files hold of a run that was done, and of one that broke off
use Rattle.std.proofs.Common.{◌∙◌, ◌<◌, Result, Err, IfErr, ap, subst}
use Rattle.base.specs.declared.fault.Fault.{Fault}
use Rattle.run_output.specs.declared.summary.Summary.{Summary}
use Rattle.scenario_files.proofs.Held.{each_err, each_ok, told_done, told_failed}
use Rattle.run_command.specs.Outcomes.{EndsWithCause, MayEndRun}
use Rattle.run_command.proofs.Counted.{both_whole, fresh_under, told_whole, two_grew, two_kept}
use Rattle.run_command.proofs.Stored.{both_begun, both_stored}
use Rattle.run_command.proofs.storing.store_both.Goals as goal

pub returns-clause-done : goal.returns-clause-done
returns-clause-done g c =
    let known = g.F.Files.known in
    let run = c.run_plain-made_trace in
    let holds = g.F.Made.Write.contents in
    told_done _ run.result.2 c.run_result.result c.run_result.ensures (each_ok run.result.2 run.ensures.promise.written (λ summary writes.
    both_stored (known c.args.files.now) (known c.make_both.new.self) (known c.close.new.self) (known c.close-2.new.self) c.args.words.trace.now c.args.report.now
    c.in-Ok.ensures.differ c.in-Ok.ensures.others c.close.ensures.others c.close-2.ensures.others
    c.args.prepared.now.scenario summary.rows _ _ _ _ c.in-Ok.ensures.empty (fresh_under holds (known c.args.files.now c.args.words.trace.now) _ _ c.new-made_trace.ensures.writer c.in-Ok.ensures.made) c.in-Ok.ensures.empty_too
    (fresh_under holds (known c.args.files.now c.args.report.now) _ _ c.new-made_report.ensures.writer c.in-Ok.ensures.made_too)
    c.close.ensures.closed c.close-2.ensures.closed writes))

pub returns-clause-failed : goal.returns-clause-failed
returns-clause-failed g c =
    let known = g.F.Files.known in
    let run = c.run_plain-made_trace in
    let holds = g.F.Made.Write.contents in
    let refused = g.F.Files.refused in
    let ends_by = MayEndRun c.args.prepared.now.scenario (g.M.Simulator.loses c.args.prepared.now.workers) in
    let ends = EndsWithCause (refused c.args.files.now < refused c.close-2.new.self) ends_by in
    told_failed _ run.result.2 c.run_result.result c.run_result.ensures (each_err run.result.2 run.ensures.promise.beginning (λ cause is begins. (
      c.in-Ok.ensures.apart,
      both_begun (known c.args.files.now) (known c.make_both.new.self) (known c.close.new.self) (known c.close-2.new.self) c.args.words.trace.now c.args.report.now
          c.in-Ok.ensures.differ c.in-Ok.ensures.others c.close.ensures.others c.close-2.ensures.others
          ends c.args.prepared.now.scenario cause _ _ _ _ c.in-Ok.ensures.empty (fresh_under holds (known c.args.files.now c.args.words.trace.now) _ _ c.new-made_trace.ensures.writer c.in-Ok.ensures.made) c.in-Ok.ensures.empty_too
          (fresh_under holds (known c.args.files.now c.args.report.now) _ _ c.new-made_report.ensures.writer c.in-Ok.ensures.made_too)
          c.close.ensures.closed c.close-2.ensures.closed (
            subst (λ (r : Result Summary Fault). IfErr r ends_by) is run.ensures.cause,
            λ e. two_grew _ _ _ _ _ _ _ _ c.in-Ok.ensures.counted c.close.ensures.refused c.close-2.ensures.refused (run.ensures.promise.write (is ∙ ap Err e)),
          ) begins (λ e. run.ensures.overflow (is ∙ ap Err e)),
    )))

pub returns-clause-whole : goal.returns-clause-whole
returns-clause-whole g c =
    let run = c.run_plain-made_trace in
    told_whole _ _ run.result.2 c.run_result.result c.run_result.ensures (both_whole _ _ run.result.2 run.ensures.promise.whole run.ensures.promise.whole_report)
    (λ none. two_kept _ _ _ _ _ _ c.in-Ok.ensures.counted c.close.ensures.refused c.close-2.ensures.refused (none.0 ∙ c.new-made_trace.ensures.failures, none.1 ∙ c.new-made_report.ensures.failures))
