-- What was dealt and taken at a seat may go to other threads.
use denote.Param.Send.{IsSend, sendable}
use denote.RattleType.{RattleType}
use Rattle.std.proofs.Crossing.{crosses}
use Rattle.board.specs.contracts.record.SeatRecord as seat_record

pub seat_record_send : (V : RattleType) → IsSend (seat_record.the_field V).row
seat_record_send V = search (crosses, sendable) depth 60 fits 20000
