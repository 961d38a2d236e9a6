-- what the file holds of a text, where it was stored and where it wasn't
use Rattle.scenario_files.proofs.Held.{told_failed, each_err_with}
use Rattle.sweep_output.proofs.Counted.{one_closed}
use Rattle.join_command.proofs.Stored.{begun, each_on_ok, is_refused, stored, handed_on_ok}
use Rattle.join_command.proofs.storing.store.Goals as goal

pub returns-clause-done : goal.returns-clause-done
returns-clause-done g c =
    let known = g.F.Files.known in
    let making = g.F.Files.making c.args.files.now in
    let filled = c.fill-made in
    handed_on_ok _ filled.result.1 c.run_result.result c.run_result.ensures
    (each_on_ok filled.result.1 filled.ensures.whole (λ written.
    stored c.args.source.now c.args.name.now making (known c.args.files.now) (known c.make_whole.new.self) (known c.close.new.self) _ _
    c.in-Ok.ensures.apart c.in-Ok.ensures.others c.close.ensures.others c.in-Ok.ensures.empty c.in-Ok.ensures.made c.close.ensures.closed c.args.text.now written))

pub returns-clause-failed : goal.returns-clause-failed
returns-clause-failed g c =
    let known = g.F.Files.known in
    let making = g.F.Files.making c.args.files.now in
    let filled = c.fill-made in
    let counted = one_closed _ _ _ _ c.make_whole.ensures.counted c.close.ensures.refused in
    told_failed _ filled.result.1 c.run_result.result c.run_result.ensures
    (each_err_with filled.result.1 filled.ensures.part (is_refused filled.result.1 _ _ _ counted filled.ensures.failures filled.ensures.causes) (λ f part is.
    begun c.args.source.now c.args.name.now making (known c.args.files.now) (known c.make_whole.new.self) (known c.close.new.self) _ _
    c.in-Ok.ensures.apart c.in-Ok.ensures.others c.close.ensures.others c.in-Ok.ensures.empty c.in-Ok.ensures.made c.close.ensures.closed _ c.args.text.now f is.0 is.1 part))
