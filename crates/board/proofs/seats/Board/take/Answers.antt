use Rattle.board.proofs.Steps.{takes, sees}
use Rattle.board.proofs.seats.Board.take.Goals as goal

pub pop_as-requires-clause-rule : goal.pop_as-requires-clause-rule
pop_as-requires-clause-rule g c = (takes _ _ _ _ c.requires.seat.1, sees _ _ _ _)
