use Rattle.std.proofs.Common.{ap, sym, ◌∙◌}
use Rattle.board.specs.declared.seats.Seat.{Seat}
use Rattle.board.specs.Records.{dealt_in, taken_in}
use Rattle.board.specs.Seats.{dealt, taken}
use Rattle.board.proofs.Singles.{one_single}
use Rattle.board.proofs.Records.{one_beside}
use Rattle.board.proofs.posts.seats_of.Goals as goal

pub returns-clause-seats : goal.returns-clause-seats
returns-clause-seats g c =
    one_single c.args.board.now c.in_ok-seats.seats.items c.push.new.self.items c.leave-seat.result.0 c.in_ok-push.ensures.items c.in_ok-seats.ensures.seats c.leave-seat.ensures.is_seat (ap (λ v. v.share) c.leave-seat.ensures.kept)

pub returns-clause-own : goal.returns-clause-own
returns-clause-own g c =
    let both = sym c.leave-seat.ensures.kept ∙ c.leave-seat.ensures.same in
    (ap (λ v. v.dealt) both, ap (λ v. v.taken) both)

pub returns-clause-dealt : goal.returns-clause-dealt
returns-clause-dealt g c =
    let seat : Seat g.row.T.Denot g.row.V.Denot = c.leave-seat.result.0 in
    one_beside (dealt_in c.in_ok-seats.records.items) c.leave-seat.result.1.dealt.value dealt c.in_ok-seats.seats.items c.push.new.self.items seat c.in_ok-push.ensures.items (sym (ap (λ v. v.dealt) c.leave-seat.ensures.kept)) c.in_ok-seats.ensures.dealt

pub returns-clause-taken : goal.returns-clause-taken
returns-clause-taken g c =
    let seat : Seat g.row.T.Denot g.row.V.Denot = c.leave-seat.result.0 in
    one_beside (taken_in c.in_ok-seats.records.items) c.leave-seat.result.1.taken.value taken c.in_ok-seats.seats.items c.push.new.self.items seat c.in_ok-push.ensures.items (sym (ap (λ v. v.taken) c.leave-seat.ensures.kept)) c.in_ok-seats.ensures.taken
