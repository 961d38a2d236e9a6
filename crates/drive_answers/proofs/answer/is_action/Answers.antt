use Rattle.json.specs.Value.{value_view}
use Rattle.drive_answers.proofs.Judged.{is_said}
use Rattle.drive_answers.proofs.answer.is_action.Goals as goal

pub returns : goal.returns
returns c = rw c.is_some.ensures (is_said (value_view c.args.item.now) c.said_by.result c.said_by.ensures.some c.said_by.ensures.none)
