-- what the files hold of a sweep that was done, and of one that broke off
use Rattle.scenario_files.proofs.Held.{each_ok, told_done, told_failed, each_err_with}
use Rattle.sweep_output.proofs.Counted.{both_closed}
use Rattle.sweep_command.proofs.Refused.{is_caused}
use Rattle.sweep_command.proofs.Pairs.{paged_begun, paged_stored}
use Rattle.sweep_command.proofs.paging.store_paged.Goals as goal

pub returns-clause-done : goal.returns-clause-done
returns-clause-done g c =
    let known = g.F.Files.known in
    let filled = c.fill_both-made_table in
    told_done _ filled.result.2 c.run_result.result c.run_result.ensures (each_ok filled.result.2 filled.ensures.whole (λ lines makes.
    paged_stored c.args.words.now (known c.args.files.now) (known c.make_both.new.self) (known c.close.new.self) (known c.close-2.new.self) c.args.page.now
    c.in-Ok.ensures.differ c.in-Ok.ensures.others c.close.ensures.others c.close-2.ensures.others
    _ _ _ _ c.in-Ok.ensures.empty c.in-Ok.ensures.made c.in-Ok.ensures.empty_too c.in-Ok.ensures.made_too
    c.close.ensures.closed c.close-2.ensures.closed _ _ _ _ makes))

pub returns-clause-failed : goal.returns-clause-failed
returns-clause-failed g c =
    let known = g.F.Files.known in
    let filled = c.fill_both-made_table in
    let counted = both_closed _ _ _ _ _ _ c.make_both.ensures.counted c.close.ensures.refused c.close-2.ensures.refused in
    told_failed _ filled.result.2 c.run_result.result c.run_result.ensures
    (each_err_with filled.result.2 filled.ensures.part (is_caused _ _ filled.result.2 _ _ _ counted filled.ensures.failures filled.ensures.causes) (λ cause begins caused. (
      c.in-Ok.ensures.apart,
      paged_begun c.args.words.now (known c.args.files.now) (known c.make_both.new.self) (known c.close.new.self) (known c.close-2.new.self) c.args.page.now
          c.in-Ok.ensures.differ c.in-Ok.ensures.others c.close.ensures.others c.close-2.ensures.others
          _ _ _ _ c.in-Ok.ensures.empty c.in-Ok.ensures.made c.in-Ok.ensures.empty_too c.in-Ok.ensures.made_too
          c.close.ensures.closed c.close-2.ensures.closed _ _ _ cause begins caused,
    )))
