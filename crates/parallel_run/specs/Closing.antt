-- What closes the board of a run.
use Rattle.std.specs.Prelude.{◌≢◌, ◌⊎◌, ℕ, List, [], length, flat_map, Option, Result}
use Rattle.base.specs.declared.fault.Fault.{Fault}
use Rattle.scenario.specs.Setup.{Setup}
use Rattle.trace.specs.declared.row.Row.{Row}
use Rattle.board.specs.declared.seats.Board.{Board}
use Rattle.board.specs.declared.seats.Seat.{Seat}
use Rattle.board.specs.Deal.{whole, DealBalance, SameBag}
use Rattle.board.specs.Seats.{AreAllSeats, dealt, taken}
use Rattle.run_output.specs.Traced.{KeepsTrace}

module _ {T V : Type 0} where
  -- a seat is missing, or something still lies on the board of what was dealt from these seats
  abbrev pub IsUnsettled : List (Seat T V) → Type 0
  IsUnsettled seats = (length seats ≢ whole) ⊎ ((lying : List V) × (lying ≢ []) × DealBalance (flat_map dealt seats) (flat_map taken seats) lying)

-- these are all the seats of the board, and every process that was dealt from them was taken at them, as often, and no other
pub record TakesAll {T V S : Type 0} (board : Board T V S) (seats : List (Seat T V)) : Type 0 where
  pub all : AreAllSeats board seats
  pub taken_all : SameBag (flat_map dealt seats) (flat_map taken seats)

-- what was kept so far still is
abbrev pub StillKeeps : Result (List Row) Fault → Result (List Row) Fault → Type 0
StillKeeps so_far result = (s : Setup) (held_old held_new : Option (List ℕ)) (failed_old failed_new : ℕ)
    → KeepsTrace s held_old held_new failed_old failed_new so_far → KeepsTrace s held_old held_new failed_old failed_new result
