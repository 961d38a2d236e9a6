use Rattle.std.proofs.Common.{◌++◌, Some, ap, sym, ◌∙◌, arith}
use Rattle.std.specs.List.{sum_by, flat_map}
use Rattle.std.proofs.lemmas.List.Elements.{All-pop}
use Rattle.std.proofs.lemmas.List.Sums.{sum_by_push}
use Rattle.board.specs.declared.seats.Seat.{Seat}
use Rattle.board.specs.Seats.{IsSeatOf, share, dealt, taken}
use Rattle.board.proofs.Hands.{flat_last, weight_moved}
use Rattle.board.proofs.Steps.{joins}
use Rattle.board.proofs.seats.gather.Goals as goal

pub loop-seat-init : goal.loop-seat-init
loop-seat-init g c =
    let items = c.in-Some.ensures.items in
    let seat : Seat g.row.T.Denot g.row.V.Denot = c.in-Some.gathered in
    let rest = c.pop.new.self.items in
    let parts = All-pop (IsSeatOf c.args.board.now) c.args.seats.items rest (Some seat) items c.requires.0 in
    record {
      gathered = parts.1;
      others = parts.0;
      shares = omega (arith, c.requires.1, ap (sum_by share) items, sum_by_push share rest seat);
      dealt = λ h. ap (sum_by h) (sym (flat_last dealt rest seat) ∙ ap (flat_map dealt) (sym items));
      taken = λ h. ap (sum_by h) (sym (flat_last taken rest seat) ∙ ap (flat_map taken) (sym items));
    }

pub absorb-requires-clause-queue : goal.absorb-requires-clause-queue
absorb-requires-clause-queue g c =
    let seat : Seat g.row.T.Denot g.row.V.Denot = c.in-Some-pop.seat in
    let parts = All-pop (IsSeatOf c.args.board.now) c.loop-seat.seats.items c.pop-in-loop-seat.new.self.items (Some seat) c.in-Some-pop.ensures.items c.loop-seat.invariant.others in
    (c.loop-seat.invariant.gathered.0, parts.1.0)

pub absorb-requires-clause-rule : goal.absorb-requires-clause-rule
absorb-requires-clause-rule g c = joins _ _ _ _ _ _ c.loop-seat.invariant.gathered.1

pub loop-seat-preserved : goal.loop-seat-preserved
loop-seat-preserved g c =
    let items = c.in-Some-pop.ensures.items in
    let seat : Seat g.row.T.Denot g.row.V.Denot = c.in-Some-pop.seat in
    let was = c.loop-seat.invariant in
    let rest = c.pop-in-loop-seat.new.self.items in
    let parts = All-pop (IsSeatOf c.args.board.now) c.loop-seat.seats.items rest (Some seat) items was.others in
    let same = c.absorb.ensures.queue in
    let both = c.absorb.ensures.rule in
    let shares = ap (λ v. v.share) both in
    record {
      gathered = ((same.0 ∙ was.gathered.0.0, same.2 ∙ was.gathered.0.1), omega (arith, was.gathered.1, shares));
      others = parts.0;
      shares = omega (arith, was.shares, shares, ap (sum_by share) items, sum_by_push share rest seat);
      dealt = λ h.
          ap (λ l. sum_by h (flat_map dealt rest ++ l)) (ap (λ v. v.dealt) both)
          ∙ (weight_moved h dealt rest seat (dealt c.loop-seat.gathered) ∙ (ap (λ l. sum_by h (flat_map dealt l ++ dealt c.loop-seat.gathered)) (sym items) ∙ was.dealt h));
      taken = λ h.
          ap (λ l. sum_by h (flat_map taken rest ++ l)) (ap (λ v. v.taken) both)
          ∙ (weight_moved h taken rest seat (taken c.loop-seat.gathered) ∙ (ap (λ l. sum_by h (flat_map taken l ++ taken c.loop-seat.gathered)) (sym items) ∙ was.taken h));
    }
