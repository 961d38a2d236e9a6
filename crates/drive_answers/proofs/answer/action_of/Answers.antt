use Rattle.std.proofs.Common.{refl}
use Rattle.drive_answers.proofs.answer.action_of.Goals as goal

pub unreachable-requires : goal.unreachable-requires
unreachable-requires c = c.in-None.ensures.none refl c.requires.action
