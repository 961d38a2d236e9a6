use Rattle.board.proofs.Steps.{deals, sees, refused}
use Rattle.board.proofs.seats.Board.deal.Goals as goal

pub push_as-requires-clause-rule : goal.push_as-requires-clause-rule
push_as-requires-clause-rule g c = (deals _ _ _ _ _ _ c.requires.seat.1 c.requires.belongs, sees _ _ _ _)

pub returns-clause-full : goal.returns-clause-full
returns-clause-full g c = refused g.S.ItemRule.stands_for g.S.ItemRule.belongs _ _ _ _ _ c.push_as.result c.push_as.ensures.rule
