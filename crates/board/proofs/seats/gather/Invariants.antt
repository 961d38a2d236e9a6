use Rattle.std.proofs.Common.{◌≡◌, ◌+◌, ◌++◌, vec_len}
use Rattle.std.specs.List.{All, sum_by, flat_map}
use Rattle.board.specs.Deal.{SameBag, whole}
use Rattle.board.specs.Seats.{IsSeatOf, share, dealt, taken}
use Rattle.board.proofs.seats.gather.Given as goal

abbrev pub invariant-loop-seat : goal.invariant-loop-seat
invariant-loop-seat g l = record {
  gathered : IsSeatOf l.board l.gathered;
  others : All (IsSeatOf l.board) l.seats.items;
  shares : share l.gathered + sum_by share l.seats.items ≡ whole;
  dealt : SameBag (flat_map dealt l.seats.items ++ dealt l.gathered) (flat_map dealt l.fn.seats.items);
  taken : SameBag (flat_map taken l.seats.items ++ taken l.gathered) (flat_map taken l.fn.seats.items);
}

abbrev pub decreases-loop-seat : goal.decreases-loop-seat
decreases-loop-seat g l = vec_len l.seats
