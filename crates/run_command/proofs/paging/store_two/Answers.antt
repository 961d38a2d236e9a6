-- what the files hold of a run that was done, and of one that broke off
use Rattle.std.proofs.Common.{◌∙◌, ◌<◌, List, ℕ, Result, Err, IfErr, ap, subst}
use Rattle.std.specs.Prelude.{None}
use Rattle.base.specs.declared.fault.Fault.{Fault}
use Rattle.run_output.specs.declared.summary.Summary.{Summary}
use Rattle.scenario_files.proofs.Held.{each_err, each_ok, told_done, told_failed}
use Rattle.run_command.specs.Outcomes.{StoresPaged, BreaksOffPaged, EndsWithCause, MayEndRun}
use Rattle.run_command.proofs.Counted.{both_whole, fresh_under, told_whole, two_grew, two_kept, without_nowhere}
use Rattle.run_command.proofs.Paged.{first_of_two, paged_begun, paged_stored, second_of_two, two_others}
use Rattle.run_command.proofs.paging.store_two.Goals as goal

pub returns-clause-done : goal.returns-clause-done
returns-clause-done g c =
    let known = g.F.Files.known in
    let holds = g.F.Made.Write.contents in
    let run = c.run_paged-made_trace in
    let start = known c.args.files.now in
    let made = known c.make_both.new.self in
    let between = known c.close.new.self in
    let end = known c.close-2.new.self in
    let trace = c.args.words.trace.now in
    let page = c.args.page.now in
    let s = c.args.prepared.now.scenario in
    let release = c.args.shown.now.release.now in
    told_done _ run.result.3 c.run_result.result c.run_result.ensures (each_ok run.result.3 run.ensures.promise.written (λ summary writes.
    subst (λ (name : List ℕ). StoresPaged s c.args.shown.now.tick name release start end trace None page summary.rows) c.requires.named
    (paged_stored s c.args.shown.now.tick c.args.shown.now.name.now release start end trace None page _ _ _ _ _ _
    (first_of_two start made between end trace page c.in-Ok.ensures.differ c.in-Ok.ensures.others c.close.ensures.others c.close-2.ensures.others
    _ _ c.in-Ok.ensures.empty (fresh_under holds (start trace) _ _ c.new-made_trace.ensures.writer c.in-Ok.ensures.made) c.close.ensures.closed)
    (λ text appended. tt)
    (second_of_two start made between end trace page c.in-Ok.ensures.differ c.in-Ok.ensures.others c.close.ensures.others c.close-2.ensures.others
    _ _ c.in-Ok.ensures.empty_too (fresh_under holds (start page) _ _ c.new-made_page.ensures.writer c.in-Ok.ensures.made_too) c.close-2.ensures.closed)
    (two_others start made between end trace page c.in-Ok.ensures.differ c.in-Ok.ensures.others c.close.ensures.others c.close-2.ensures.others)
    summary.rows writes)))

pub returns-clause-failed : goal.returns-clause-failed
returns-clause-failed g c =
    let known = g.F.Files.known in
    let holds = g.F.Made.Write.contents in
    let run = c.run_paged-made_trace in
    let start = known c.args.files.now in
    let made = known c.make_both.new.self in
    let between = known c.close.new.self in
    let end = known c.close-2.new.self in
    let trace = c.args.words.trace.now in
    let page = c.args.page.now in
    let s = c.args.prepared.now.scenario in
    let release = c.args.shown.now.release.now in
    let refused = g.F.Files.refused in
    let ends_by = MayEndRun c.args.prepared.now.scenario (g.M.Simulator.loses c.args.prepared.now.workers) in
    let ends = EndsWithCause (refused c.args.files.now < refused c.close-2.new.self) ends_by in
    told_failed _ run.result.3 c.run_result.result c.run_result.ensures (each_err run.result.3 run.ensures.promise.beginning (λ cause is begins. (
      c.in-Ok.ensures.apart,
      subst (λ (name : List ℕ). BreaksOffPaged ends s c.args.shown.now.tick name release start end trace None page cause) c.requires.named
          (paged_begun s c.args.shown.now.tick c.args.shown.now.name.now release start end trace None page _ _ _ _ _ _
          (first_of_two start made between end trace page c.in-Ok.ensures.differ c.in-Ok.ensures.others c.close.ensures.others c.close-2.ensures.others
          _ _ c.in-Ok.ensures.empty (fresh_under holds (start trace) _ _ c.new-made_trace.ensures.writer c.in-Ok.ensures.made) c.close.ensures.closed)
          (λ text appended. tt)
          (second_of_two start made between end trace page c.in-Ok.ensures.differ c.in-Ok.ensures.others c.close.ensures.others c.close-2.ensures.others
          _ _ c.in-Ok.ensures.empty_too (fresh_under holds (start page) _ _ c.new-made_page.ensures.writer c.in-Ok.ensures.made_too) c.close-2.ensures.closed)
          (two_others start made between end trace page c.in-Ok.ensures.differ c.in-Ok.ensures.others c.close.ensures.others c.close-2.ensures.others)
          ends cause (
            subst (λ (r : Result Summary Fault). IfErr r ends_by) is run.ensures.cause,
            λ e. two_grew _ _ _ _ _ _ _ _ c.in-Ok.ensures.counted c.close.ensures.refused c.close-2.ensures.refused (without_nowhere (run.ensures.promise.write (is ∙ ap Err e))),
          ) begins (λ e. run.ensures.overflow (is ∙ ap Err e))),
    )))

pub returns-clause-whole : goal.returns-clause-whole
returns-clause-whole g c =
    let run = c.run_paged-made_trace in
    told_whole _ _ run.result.3 c.run_result.result c.run_result.ensures (both_whole _ _ run.result.3 run.ensures.promise.whole run.ensures.promise.whole_page)
    (λ none. two_kept _ _ _ _ _ _ c.in-Ok.ensures.counted c.close.ensures.refused c.close-2.ensures.refused (none.0 ∙ c.new-made_trace.ensures.failures, none.1 ∙ c.new-made_page.ensures.failures))
