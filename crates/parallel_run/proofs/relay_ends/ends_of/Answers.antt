use Rattle.std.proofs.Common.{length, [], ◌∷◌, length-append, ap, arith}
use Rattle.parallel_run.specs.Relays.{AreNewSeats}
use Rattle.parallel_run.proofs.JoiningPlaces.{all_but_last}
use Rattle.parallel_run.proofs.relay_ends.ends_of.Goals as goal

pub ends_at-requires-clause-run : goal.ends_at-requires-clause-run
ends_at-requires-clause-run g c =
    let run = c.loop-seats.invariant.run in
    (run.0, run.1, (all_but_last (AreNewSeats c.args.relays.now run.0) c.loop-seats.all.items c.pop.new.self.items c.in-Some.seats c.in-Some.ensures.items run.2).1)

pub loop-seats-preserved : goal.loop-seats-preserved
loop-seats-preserved g c =
    let run = c.loop-seats.invariant.run in
    record {
      run = (run.0, run.1, (all_but_last (AreNewSeats c.args.relays.now run.0) c.loop-seats.all.items c.pop.new.self.items c.in-Some.seats c.in-Some.ensures.items run.2).0);
      count = omega (arith, c.loop-seats.invariant.count, ap length c.in-Some.ensures.items, length-append c.pop.new.self.items (c.in-Some.seats ∷ []), c.in_ok-push.ensures.len);
    }
