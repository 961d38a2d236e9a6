-- What was dealt and taken at the seats of a board that have come together.
use Rattle.std.specs.Prelude.{List, ◌++◌}
use Rattle.std.specs.List.{flat_map}
use Rattle.board.specs.declared.record.SeatRecord.{SeatRecord}
use Rattle.board.specs.declared.record.BoardRecord.{BoardRecord}

module _ {V : Type 0} where
  -- what was dealt at these seats
  abbrev pub dealt_in : List (SeatRecord V) → List V
  dealt_in seats = flat_map (λ (s : SeatRecord V). s.dealt.value) seats

  -- what was taken at them
  abbrev pub taken_in : List (SeatRecord V) → List V
  taken_in seats = flat_map (λ (s : SeatRecord V). s.taken.value) seats

  -- what was dealt and taken at the one seat
  abbrev pub own_dealt : BoardRecord V → List V
  own_dealt board = board.own.dealt.value

  abbrev pub own_taken : BoardRecord V → List V
  own_taken board = board.own.taken.value

  -- what was dealt and taken at the others
  abbrev pub others_dealt : BoardRecord V → List V
  others_dealt board = dealt_in board.others.items

  abbrev pub others_taken : BoardRecord V → List V
  others_taken board = taken_in board.others.items

  -- what was dealt at all seats of the board
  abbrev pub all_dealt : BoardRecord V → List V
  all_dealt board = others_dealt board ++ own_dealt board

  -- what was taken at all of them
  abbrev pub all_taken : BoardRecord V → List V
  all_taken board = others_taken board ++ own_taken board
