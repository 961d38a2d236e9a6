use Rattle.std.proofs.Common.{◌≡◌, ◌+◌, length, vec_len}
use Rattle.std.specs.List.{flat_map}
use Rattle.board.specs.Records.{dealt_in, taken_in}
use Rattle.board.specs.Seats.{dealt, taken}
use Rattle.board.specs.Sites.{AreSingleSeats}
use Rattle.board.proofs.posts.seats_and_records.Given as goal

abbrev pub invariant-loop-post : goal.invariant-loop-post
invariant-loop-post g l = record {
  singles : AreSingleSeats l.board l.seats.items;
  count : length l.seats.items + length l.posts.items ≡ length l.fn.posts.items;
  dealt : dealt_in l.records.items ≡ flat_map dealt l.seats.items;
  taken : taken_in l.records.items ≡ flat_map taken l.seats.items;
}

abbrev pub decreases-loop-post : goal.decreases-loop-post
decreases-loop-post g l = vec_len l.posts
