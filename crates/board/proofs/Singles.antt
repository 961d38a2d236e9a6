-- Seats of which each has one share.
use Rattle.std.proofs.Common.{◌≡◌, ◌≤◌, List, [], ◌∷◌, ◌++◌, Some, length, length-append, ap, arith}
use Rattle.std.specs.List.{sum_by, All}
use Rattle.std.proofs.lemmas.List.Elements.{All-head, All-tail, All-pop, All-push}
use Rattle.std.proofs.lemmas.List.Sums.{sum_by-cons, sum_by_push}
use Rattle.board.specs.declared.seats.Board.{Board}
use Rattle.board.specs.declared.seats.Seat.{Seat}
use Rattle.board.specs.Seats.{IsSeatOf, share}
use Rattle.board.specs.Sites.{AreSingleSeats}

module _ {T V S : Type 0} (board : Board T V S) where
  -- seats have at least one share each
  at_least : (seats : List (Seat T V)) → All (IsSeatOf board) seats → length seats ≤ sum_by share seats
  at_least [] all = omega arith
  at_least (s ∷ ss) all = omega (arith, (All-head (IsSeatOf board) s ss all).1, at_least ss (All-tail (IsSeatOf board) s ss all), sum_by-cons share s ss)

  -- the last of them, and the others
  pub last_single : (seats rest : List (Seat T V)) (seat : Seat T V) → seats ≡ rest ++ seat ∷ [] → AreSingleSeats board seats → AreSingleSeats board rest × IsSeatOf board seat × (share seat ≡ 1)
  last_single seats rest seat items single =
      let parts = All-pop (IsSeatOf board) seats rest (Some seat) items single.0 in
      let least = at_least rest parts.0 in
      let total = ap (sum_by share) items in
      let count = ap length items in (
        (parts.0, omega (arith, single.1, least, total, count, parts.1.1, sum_by_push share rest seat, length-append rest (seat ∷ []))),
        parts.1,
        omega (arith, single.1, least, total, count, parts.1.1, sum_by_push share rest seat, length-append rest (seat ∷ [])),
      )

  -- one more of them
  pub one_single : (seats after : List (Seat T V)) (seat : Seat T V) → after ≡ seats ++ seat ∷ [] → AreSingleSeats board seats → IsSeatOf board seat → share seat ≡ 1 → AreSingleSeats board after
  one_single seats after seat items single is one =
      rw items ((All-push (IsSeatOf board) seats seat single.0 is, omega (arith, single.1, one, sum_by_push share seats seat, length-append seats (seat ∷ []))))
