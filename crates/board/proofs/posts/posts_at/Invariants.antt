use Rattle.std.proofs.Common.{◌≡◌, ◌+◌, length, vec_len, All}
use Rattle.board.specs.Deal.{whole}
use Rattle.board.specs.Posts.{HasNone}
use Rattle.board.specs.Seats.{HasEmptyBags}
use Rattle.board.specs.Sites.{AreSingleSeats}
use Rattle.board.proofs.posts.posts_at.Given as goal

abbrev pub invariant-loop-seat : goal.invariant-loop-seat
invariant-loop-seat g l = record {
  singles : AreSingleSeats l.board l.seats.items;
  empty : All HasEmptyBags l.seats.items;
  none : All HasNone l.posts.items;
  count : length l.posts.items + length l.seats.items ≡ whole;
}

abbrev pub decreases-loop-seat : goal.decreases-loop-seat
decreases-loop-seat g l = vec_len l.seats
