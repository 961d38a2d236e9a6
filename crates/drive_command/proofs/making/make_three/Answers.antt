use Rattle.drive_command.proofs.Opened.{fresh, made_three}
use Rattle.drive_command.proofs.making.make_three.Goals as goal

pub returns-in-Ok-clause-made : goal.returns-in-Ok-clause-made
returns-in-Ok-clause-made g c =
    let known = g.F.Files.known in
    let holds = g.F.Made.Write.contents in
    made_three holds (known c.args.files.now) (known c.make_three.new.self) c.args.words.trace.now _
    (fresh holds _ _ _ _ c.in-Ok.ensures.empty c.in-Ok.ensures.made c.new.ensures.writer c.new.ensures.failures)
    c.args.report.now c.args.page.now _ _
    (fresh holds _ _ _ _ c.in-Ok.ensures.empty_second c.in-Ok.ensures.made_second c.new-in-Ok.ensures.writer c.new-in-Ok.ensures.failures)
    (fresh holds _ _ _ _ c.in-Ok.ensures.empty_third c.in-Ok.ensures.made_third c.new-in-Ok-2.ensures.writer c.new-in-Ok-2.ensures.failures)
    c.in-Ok.ensures.differ c.in-Ok.ensures.others
