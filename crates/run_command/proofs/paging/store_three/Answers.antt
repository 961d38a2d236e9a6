-- what the files hold of a run that was done, and of one that broke off
use Rattle.std.proofs.Common.{◌∙◌, ◌<◌, List, ℕ, Result, Err, IfErr, ap, subst}
use Rattle.std.specs.Prelude.{Some}
use Rattle.base.specs.declared.fault.Fault.{Fault}
use Rattle.run_output.specs.declared.summary.Summary.{Summary}
use Rattle.scenario_files.proofs.Held.{each_err, each_ok, told_done, told_failed}
use Rattle.run_command.specs.Outcomes.{StoresPaged, BreaksOffPaged, EndsWithCause, MayEndRun}
use Rattle.run_command.proofs.Counted.{fresh_under, three_grew, three_kept, three_whole, told_whole}
use Rattle.run_command.proofs.Paged.{first_of_three, paged_begun, paged_stored, second_of_three, third_of_three, three_others}
use Rattle.run_command.proofs.paging.store_three.Goals as goal

pub returns-clause-done : goal.returns-clause-done
returns-clause-done g c =
    let known = g.F.Files.known in
    let holds = g.F.Made.Write.contents in
    let run = c.run_paged-made_trace in
    let start = known c.args.files.now in
    let made = known c.make_three.new.self in
    let one = known c.close.new.self in
    let two = known c.close-2.new.self in
    let end = known c.close-3.new.self in
    let trace = c.args.words.trace.now in
    let report = c.args.report.now in
    let page = c.args.page.now in
    let s = c.args.prepared.now.scenario in
    let release = c.args.shown.now.release.now in
    told_done _ run.result.3 c.run_result.result c.run_result.ensures (each_ok run.result.3 run.ensures.promise.written (λ summary writes.
    subst (λ (name : List ℕ). StoresPaged s c.args.shown.now.tick name release start end trace (Some report) page summary.rows) c.requires.named
    (paged_stored s c.args.shown.now.tick c.args.shown.now.name.now release start end trace (Some report) page _ _ _ _ _ _
    (first_of_three start made one two end trace report page c.in-Ok.ensures.differ c.in-Ok.ensures.others c.close.ensures.others c.close-2.ensures.others c.close-3.ensures.others
    _ _ c.in-Ok.ensures.empty (fresh_under holds (start trace) _ _ c.new-made_trace.ensures.writer c.in-Ok.ensures.made) c.close.ensures.closed)
    (second_of_three start made one two end trace report page c.in-Ok.ensures.differ c.in-Ok.ensures.others c.close.ensures.others c.close-2.ensures.others c.close-3.ensures.others
    _ _ c.in-Ok.ensures.empty_second (fresh_under holds (start report) _ _ c.new-made_report.ensures.writer c.in-Ok.ensures.made_second) c.close-2.ensures.closed)
    (third_of_three start made one two end trace report page c.in-Ok.ensures.differ c.in-Ok.ensures.others c.close.ensures.others c.close-2.ensures.others c.close-3.ensures.others
    _ _ c.in-Ok.ensures.empty_third (fresh_under holds (start page) _ _ c.new-made_page.ensures.writer c.in-Ok.ensures.made_third) c.close-3.ensures.closed)
    (three_others start made one two end trace report page c.in-Ok.ensures.differ c.in-Ok.ensures.others c.close.ensures.others c.close-2.ensures.others c.close-3.ensures.others)
    summary.rows writes)))

pub returns-clause-failed : goal.returns-clause-failed
returns-clause-failed g c =
    let known = g.F.Files.known in
    let holds = g.F.Made.Write.contents in
    let run = c.run_paged-made_trace in
    let start = known c.args.files.now in
    let made = known c.make_three.new.self in
    let one = known c.close.new.self in
    let two = known c.close-2.new.self in
    let end = known c.close-3.new.self in
    let trace = c.args.words.trace.now in
    let report = c.args.report.now in
    let page = c.args.page.now in
    let s = c.args.prepared.now.scenario in
    let release = c.args.shown.now.release.now in
    let refused = g.F.Files.refused in
    let ends_by = MayEndRun c.args.prepared.now.scenario (g.M.Simulator.loses c.args.prepared.now.workers) in
    let ends = EndsWithCause (refused c.args.files.now < refused c.close-3.new.self) ends_by in
    told_failed _ run.result.3 c.run_result.result c.run_result.ensures (each_err run.result.3 run.ensures.promise.beginning (λ cause is begins. (
      c.in-Ok.ensures.apart,
      subst (λ (name : List ℕ). BreaksOffPaged ends s c.args.shown.now.tick name release start end trace (Some report) page cause) c.requires.named
          (paged_begun s c.args.shown.now.tick c.args.shown.now.name.now release start end trace (Some report) page _ _ _ _ _ _
          (first_of_three start made one two end trace report page c.in-Ok.ensures.differ c.in-Ok.ensures.others c.close.ensures.others c.close-2.ensures.others c.close-3.ensures.others
          _ _ c.in-Ok.ensures.empty (fresh_under holds (start trace) _ _ c.new-made_trace.ensures.writer c.in-Ok.ensures.made) c.close.ensures.closed)
          (second_of_three start made one two end trace report page c.in-Ok.ensures.differ c.in-Ok.ensures.others c.close.ensures.others c.close-2.ensures.others c.close-3.ensures.others
          _ _ c.in-Ok.ensures.empty_second (fresh_under holds (start report) _ _ c.new-made_report.ensures.writer c.in-Ok.ensures.made_second) c.close-2.ensures.closed)
          (third_of_three start made one two end trace report page c.in-Ok.ensures.differ c.in-Ok.ensures.others c.close.ensures.others c.close-2.ensures.others c.close-3.ensures.others
          _ _ c.in-Ok.ensures.empty_third (fresh_under holds (start page) _ _ c.new-made_page.ensures.writer c.in-Ok.ensures.made_third) c.close-3.ensures.closed)
          (three_others start made one two end trace report page c.in-Ok.ensures.differ c.in-Ok.ensures.others c.close.ensures.others c.close-2.ensures.others c.close-3.ensures.others)
          ends cause (
            subst (λ (r : Result Summary Fault). IfErr r ends_by) is run.ensures.cause,
            λ e. three_grew _ _ _ _ _ _ _ _ _ _ _ c.in-Ok.ensures.counted c.close.ensures.refused c.close-2.ensures.refused c.close-3.ensures.refused
                (run.ensures.promise.write (is ∙ ap Err e)),
          ) begins (λ e. run.ensures.overflow (is ∙ ap Err e))),
    )))

pub returns-clause-whole : goal.returns-clause-whole
returns-clause-whole g c =
    let run = c.run_paged-made_trace in
    told_whole _ _ run.result.3 c.run_result.result c.run_result.ensures
    (three_whole _ _ _ run.result.3 run.ensures.promise.whole run.ensures.promise.whole_report run.ensures.promise.whole_page)
    (λ none. three_kept _ _ _ _ _ _ _ _ c.in-Ok.ensures.counted c.close.ensures.refused c.close-2.ensures.refused c.close-3.ensures.refused
    (none.0 ∙ c.new-made_trace.ensures.failures, none.1 ∙ c.new-made_report.ensures.failures, none.2 ∙ c.new-made_page.ensures.failures))
