use Rattle.drive_command.proofs.Opened.{fresh, made_with_report}
use Rattle.drive_command.proofs.making.make_with_report.Goals as goal

pub returns-in-Ok-clause-made : goal.returns-in-Ok-clause-made
returns-in-Ok-clause-made g c =
    let known = g.F.Files.known in
    let holds = g.F.Made.Write.contents in
    made_with_report holds (known c.args.files.now) (known c.make_both.new.self) c.args.words.trace.now _
    (fresh holds _ _ _ _ c.in-Ok.ensures.empty c.in-Ok.ensures.made c.new.ensures.writer c.new.ensures.failures)
    c.args.report.now _
    (fresh holds _ _ _ _ c.in-Ok.ensures.empty_too c.in-Ok.ensures.made_too c.new-in-Ok.ensures.writer c.new-in-Ok.ensures.failures)
    c.in-Ok.ensures.differ c.in-Ok.ensures.others
