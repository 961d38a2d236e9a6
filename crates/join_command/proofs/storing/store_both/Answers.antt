-- what the files hold of a table and a page, where they were stored and where they weren't
use Rattle.scenario_files.proofs.Held.{told_failed, each_err_with}
use Rattle.sweep_output.proofs.Counted.{both_closed}
use Rattle.join_command.proofs.Stored.{both_begun, both_stored, each_on_ok, is_refused, handed_on_ok}
use Rattle.join_command.proofs.storing.store_both.Goals as goal

pub returns-clause-done : goal.returns-clause-done
returns-clause-done g c =
    let known = g.F.Files.known in
    let making = g.F.Files.making c.args.files.now in
    let filled = c.fill_both-made in
    handed_on_ok _ filled.result.2 c.run_result.result c.run_result.ensures
    (each_on_ok filled.result.2 filled.ensures.whole (λ written.
    both_stored c.args.source.now c.args.name.now c.args.page.now making (known c.args.files.now) (known c.make_both_whole.new.self) (known c.close.new.self) (known c.close-2.new.self)
    c.in-Ok.ensures.apart c.in-Ok.ensures.differ c.in-Ok.ensures.others c.close.ensures.others c.close-2.ensures.others
    _ _ _ _ c.in-Ok.ensures.empty c.in-Ok.ensures.made c.in-Ok.ensures.empty_too c.in-Ok.ensures.made_too
    c.close.ensures.closed c.close-2.ensures.closed c.args.table.now c.args.shown.now written))

pub returns-clause-failed : goal.returns-clause-failed
returns-clause-failed g c =
    let known = g.F.Files.known in
    let making = g.F.Files.making c.args.files.now in
    let filled = c.fill_both-made in
    let counted = both_closed _ _ _ _ _ _ c.make_both_whole.ensures.counted c.close.ensures.refused c.close-2.ensures.refused in
    told_failed _ filled.result.2 c.run_result.result c.run_result.ensures
    (each_err_with filled.result.2 filled.ensures.part (is_refused filled.result.2 _ _ _ counted filled.ensures.failures filled.ensures.causes) (λ f part is.
    both_begun c.args.source.now c.args.name.now c.args.page.now making (known c.args.files.now) (known c.make_both_whole.new.self) (known c.close.new.self) (known c.close-2.new.self)
    c.in-Ok.ensures.apart c.in-Ok.ensures.differ c.in-Ok.ensures.others c.close.ensures.others c.close-2.ensures.others
    _ _ _ _ c.in-Ok.ensures.empty c.in-Ok.ensures.made c.in-Ok.ensures.empty_too c.in-Ok.ensures.made_too
    c.close.ensures.closed c.close-2.ensures.closed c.args.table.now c.args.shown.now _ f is.0 is.1 part))
