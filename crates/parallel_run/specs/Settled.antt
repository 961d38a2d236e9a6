-- What the seats of a run's board leave behind as it is closed.
use Rattle.std.specs.Prelude.{◌≡◌, ◌≤◌, List, Vec, Result, Ok, Err}
use Rattle.std.specs.List.{flat_map}
use Rattle.std.specs.declared.alloc.Global.{Global}
use Rattle.scenario.specs.Division.{Deal}
use Rattle.base.specs.declared.fault.Memory.{Memory}
use Rattle.board.specs.declared.record.BoardRecord.{BoardRecord}
use Rattle.board.specs.declared.seats.Seat.{Seat}
use Rattle.board.specs.Deal.{SameBag}
use Rattle.board.specs.Records.{all_dealt, all_taken}
use Rattle.board.specs.Seats.{dealt, taken}
use Rattle.parallel_run.specs.declared.closed_relay.RunAccount.{RunAccount}
use Rattle.parallel_run.specs.Dealt.{AreDealt}

module _ {T V : Type 0} where
  -- the record has what was dealt and taken at these seats
  abbrev pub IsRecordOf : List (Seat T V) → BoardRecord V → Type 0
  IsRecordOf seats board = (all_dealt board ≡ flat_map dealt seats) × (all_taken board ≡ flat_map taken seats)

  -- the seats came back with that record, and what was dealt there is what was taken, as often
  abbrev pub IsSettledFrom : Result (Vec (Seat T V) Global × BoardRecord V) Memory → BoardRecord V → Type 0
  IsSettledFrom (Ok back) board = (board ≡ back.1) × SameBag (all_dealt board) (all_taken board)
  IsSettledFrom (Err memory) board = ⊥

-- what was dealt and taken on the board of a run by these parts, of which there is at least one
abbrev pub IsSettled : Deal → RunAccount → Type 0
IsSettled deal account = (1 ≤ deal.parts) × AreDealt deal.parts account.board
