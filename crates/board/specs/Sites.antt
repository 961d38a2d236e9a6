-- Which board it is.
use Rattle.std.specs.Prelude.{◌≡◌}
use Rattle.std.specs.List.{sum_by, All}
use Rattle.std.specs.Prelude.{List, length}
use Rattle.atomic_table.specs.Seated.{TableId}
use Rattle.board.specs.declared.seats.Board.{Board}
use Rattle.board.specs.declared.seats.Seat.{Seat}
use Rattle.board.specs.Seats.{IsSeatOf, share}

module _ {T V S : Type 0} where
  -- what no two boards share
  abbrev pub table_of : Board T V S → TableId
  table_of board = board.queue.table.shared.table_id

  -- seats of the board, each of which has one share
  abbrev pub AreSingleSeats : Board T V S → List (Seat T V) → Type 0
  AreSingleSeats board seats = All (IsSeatOf board) seats × (sum_by share seats ≡ length seats)
