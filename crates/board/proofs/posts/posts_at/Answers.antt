use Rattle.std.proofs.Common.{length, Some, [], ◌∷◌, length-append, ap, arith}
use Rattle.std.proofs.lemmas.List.Elements.{All-pop, All-push}
use Rattle.board.specs.Posts.{HasNone}
use Rattle.board.specs.Seats.{HasEmptyBags, record_of}
use Rattle.board.proofs.Records.{none_yet}
use Rattle.board.proofs.Singles.{last_single}
use Rattle.board.proofs.posts.posts_at.Goals as goal

pub new-requires-clause-is_seat : goal.new-requires-clause-is_seat
new-requires-clause-is_seat g c = (last_single c.args.board.now c.loop-seat.seats.items c.pop.new.self.items c.in-Some.seat c.in-Some.ensures.items c.loop-seat.invariant.singles).1

pub new-requires-clause-none : goal.new-requires-clause-none
new-requires-clause-none g c =
    let empty = (All-pop HasEmptyBags c.loop-seat.seats.items c.pop.new.self.items (Some c.in-Some.seat) c.in-Some.ensures.items c.loop-seat.invariant.empty).1 in
    none_yet (record_of c.in-Some.seat) (last_single c.args.board.now c.loop-seat.seats.items c.pop.new.self.items c.in-Some.seat c.in-Some.ensures.items c.loop-seat.invariant.singles).2 empty.0 empty.1

pub loop-seat-preserved : goal.loop-seat-preserved
loop-seat-preserved g c =
    let items = c.in-Ok.ensures.items in
    record {
      singles = (last_single c.args.board.now c.loop-seat.seats.items c.pop.new.self.items c.in-Some.seat c.in-Some.ensures.items c.loop-seat.invariant.singles).0;
      empty = (All-pop HasEmptyBags c.loop-seat.seats.items c.pop.new.self.items (Some c.in-Some.seat) c.in-Some.ensures.items c.loop-seat.invariant.empty).0;
      none = rw items (All-push HasNone c.loop-seat.posts.items c.new.result c.loop-seat.invariant.none c.new.ensures);
      count =
          omega (
            arith,
            c.loop-seat.invariant.count,
            ap length c.in-Some.ensures.items,
            length-append c.pop.new.self.items (c.in-Some.seat ∷ []),
            ap length items,
            length-append c.loop-seat.posts.items (c.new.result ∷ []),
          );
    }
