-- What a seat of a board knows.
use Rattle.std.specs.Prelude.{◌≡◌, ℕ, ◌<◌, List, []}
use Rattle.std.specs.List.{sum_by, All}
use Rattle.crossbeam_queue.specs.Passes.{view, IsPassOf, IsSamePass, ruled_capacity}
use Rattle.board.specs.declared.rule.Hand.{Hand}
use Rattle.board.specs.declared.seats.Board.{Board}
use Rattle.board.specs.declared.seats.Seat.{Seat}
use Rattle.board.specs.Deal.{whole}

module _ {T V : Type 0} where
  -- what a seat knows: its share, its dealt bag and its taken bag
  abbrev pub record_of : Seat T V → Hand V
  record_of seat = view seat.pass

  -- what was dealt from the seat
  abbrev pub dealt : Seat T V → List V
  dealt seat = (view seat.pass).dealt

  -- what the seat has taken
  abbrev pub taken : Seat T V → List V
  taken seat = (view seat.pass).taken

  -- its share of the right to see the whole of the board
  abbrev pub share : Seat T V → ℕ
  share seat = (view seat.pass).share

  abbrev pub HasEmptyBags : Seat T V → Type 0
  HasEmptyBags seat = (dealt seat ≡ []) × (taken seat ≡ [])

  -- a seat of the same board, with the same share
  abbrev pub IsSameSeat : Seat T V → Seat T V → Type 0
  IsSameSeat old new = IsSamePass old.pass new.pass × (share new ≡ share old)

module _ {T V S : Type 0} where
  -- how many items can lie on the board
  abbrev pub room : Board T V S → ℕ
  room board = ruled_capacity board.queue

  -- a seat of this board
  abbrev pub IsSeatOf : Board T V S → Seat T V → Type 0
  IsSeatOf board seat = IsPassOf board.queue seat.pass × (0 < share seat)

  -- these are all the seats of the board
  abbrev pub AreAllSeats : Board T V S → List (Seat T V) → Type 0
  AreAllSeats board seats = All (IsSeatOf board) seats × (sum_by share seats ≡ whole)
