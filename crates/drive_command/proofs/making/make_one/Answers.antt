use Rattle.drive_command.proofs.Opened.{fresh, made_alone}
use Rattle.drive_command.proofs.making.make_one.Goals as goal

pub returns-in-Ok-clause-made : goal.returns-in-Ok-clause-made
returns-in-Ok-clause-made g c =
    let known = g.F.Files.known in
    let name = c.args.words.trace.now in
    made_alone g.F.Made.Write.contents (known c.args.files.now) (known c.make.new.self) name _
    (fresh g.F.Made.Write.contents _ _ _ _ c.in-Ok.ensures.empty c.in-Ok.ensures.made c.new.ensures.writer c.new.ensures.failures)
    c.in-Ok.ensures.others
