use Rattle.std.proofs.Common.{length, [], ◌∷◌, length-append, ap, sym, arith}
use Rattle.board.specs.declared.record.SeatRecord.{SeatRecord}
use Rattle.board.specs.declared.seats.Seat.{Seat}
use Rattle.board.specs.Seats.{dealt, taken}
use Rattle.board.proofs.Singles.{one_single}
use Rattle.board.proofs.Records.{one_more}
use Rattle.board.proofs.posts.seats_and_records.Goals as goal

pub loop-post-preserved : goal.loop-post-preserved
loop-post-preserved g c =
    let seat : Seat g.row.T.Denot g.row.V.Denot = c.leave-seat.result.0 in
    let made : SeatRecord g.row.V.Denot = c.leave-seat.result.1 in
    let kept = c.leave-seat.ensures.kept in
    let was = c.loop-post.invariant in
    let seats = c.push.new.self.items in
    let records = c.push-in-Some.new.self.items in
    record {
      singles = one_single c.args.board.now c.loop-post.seats.items seats seat c.in_ok-push.ensures.items was.singles c.leave-seat.ensures.is_seat (ap (λ v. v.share) kept);
      count =
          omega (
            arith,
            was.count,
            ap length c.in-Some.ensures.items,
            length-append c.pop.new.self.items (c.in-Some.post ∷ []),
            ap length c.in_ok-push.ensures.items,
            length-append c.loop-post.seats.items (seat ∷ []),
          );
      dealt = one_more (λ (s : SeatRecord g.row.V.Denot). s.dealt.value) dealt c.loop-post.records.items records made c.loop-post.seats.items seats seat c.in_ok-push-2.ensures.items c.in_ok-push.ensures.items (sym (ap (λ v. v.dealt) kept)) was.dealt;
      taken = one_more (λ (s : SeatRecord g.row.V.Denot). s.taken.value) taken c.loop-post.records.items records made c.loop-post.seats.items seats seat c.in_ok-push-2.ensures.items c.in_ok-push.ensures.items (sym (ap (λ v. v.taken) kept)) was.taken;
    }
