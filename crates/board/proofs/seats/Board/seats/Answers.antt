use Rattle.std.proofs.Common.{[], ◌∷◌, length-append, ap, ◌∙◌, arith}
use Rattle.std.proofs.lemmas.List.Elements.{All-push}
use Rattle.std.proofs.lemmas.List.Sums.{sum_by_push}
use Rattle.board.specs.declared.seats.Seat.{Seat}
use Rattle.board.specs.Seats.{IsSeatOf, HasEmptyBags, share}
use Rattle.board.proofs.Steps.{cuts}
use Rattle.board.proofs.seats.Board.seats.Goals as goal

pub another-pass-requires-clause-rule : goal.another-pass-requires-clause-rule
another-pass-requires-clause-rule g c = cuts _ _ _ _ (let left = c.loop.invariant.left in let count = c.loop.invariant.count in omega arith)

pub loop-preserved : goal.loop-preserved
loop-preserved g c =
    let seat : Seat g.row.T.Denot g.row.V.Denot = record { pass = c.another-pass.result } in
    let was = c.loop.invariant in
    let items = c.in-Ok.ensures.items in
    let same = c.another-pass.ensures.queue.0 in
    let left = c.another-pass.ensures.rule.0 in
    let right = c.another-pass.ensures.rule.1 in
    let fewer = ap (λ v. v.share) left in
    let one = ap (λ v. v.share) right in
    record {
      first = ((same.0 ∙ was.first.0.0, same.2 ∙ was.first.0.1), omega (arith, was.left, was.count, fewer));
      bags = (ap (λ v. v.dealt) left ∙ was.bags.0, ap (λ v. v.taken) left ∙ was.bags.1);
      left = rw items (omega (arith, was.left, was.count, fewer, length-append c.loop.made.items (seat ∷ [])));
      count = rw items (omega (arith, was.count, length-append c.loop.made.items (seat ∷ [])));
      shares = rw items (omega (arith, was.shares, one, sum_by_push share c.loop.made.items seat, length-append c.loop.made.items (seat ∷ [])));
      seats = rw items (All-push (IsSeatOf c.args.self.now) c.loop.made.items seat was.seats (c.another-pass.ensures.queue.1, omega (arith, one)));
      empty = rw items (All-push HasEmptyBags c.loop.made.items seat was.empty (ap (λ v. v.dealt) right, ap (λ v. v.taken) right));
    }
