use Rattle.std.proofs.Common.{◌∙◌}
use Rattle.figures.proofs.Fields.{line_ended}
use Rattle.figures.proofs.lines.finish.Goals as goal

pub returns-in-Ok-into_inner : goal.returns-in-Ok-into_inner
returns-in-Ok-into_inner c fields has two = c.in-Ok-into_inner.ensures.ok ∙ line_ended c.args.writer c.end_record.new.self fields has two c.in-Ok.ensures.bytes
