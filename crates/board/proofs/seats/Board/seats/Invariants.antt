use Rattle.std.proofs.Common.{◌≡◌, ◌+◌, length}
use Rattle.std.specs.List.{All, sum_by}
use Rattle.board.specs.Deal.{whole}
use Rattle.board.specs.Seats.{IsSeatOf, HasEmptyBags, share}
use Rattle.board.proofs.seats.Board.seats.Given as goal

abbrev pub invariant-loop : goal.invariant-loop
invariant-loop g l = record {
  first : IsSeatOf l.self l.first;
  bags : HasEmptyBags l.first;
  left : share l.first + length l.made.items ≡ whole;
  count : length l.made.items + 1 ≡ l.counter;
  shares : sum_by share l.made.items ≡ length l.made.items;
  seats : All (IsSeatOf l.self) l.made.items;
  empty : All HasEmptyBags l.made.items;
}
