use Rattle.std.proofs.Common.{ap, sym, subst, arith, length}
use Rattle.std.specs.List.{AllByRecursion}
use Rattle.parallel_run.specs.declared.row_relay.RelaySeats.{RelaySeats}
use Rattle.parallel_run.specs.Relaying.{basis_in}
use Rattle.parallel_run.specs.Relays.{AreNewSeats, IsMadeFor}
use Rattle.parallel_run.proofs.JoiningPlaces.{all_with_one}
use Rattle.parallel_run.proofs.Relaying.{seats_more, seats_made}
use Rattle.parallel_run.proofs.row_relay.relays_of.Goals as goal

pub loop-number-init : goal.loop-number-init
loop-number-init c = record {
  relays = ap length c.new-relays.ensures.items;
  count = ap length c.new-all.ensures.items;
  given = subst (AllByRecursion (IsMadeFor (basis_in c.args.run.now))) (sym c.new-relays.ensures.items) tt;
  seats = subst (AllByRecursion (AreNewSeats c.new-relays.result.items (basis_in c.args.run.now))) (sym c.new-all.ensures.items) tt;
}

pub loop-number-preserved : goal.loop-number-preserved
loop-number-preserved c =
    let so_far = c.loop-number.invariant in
    let relays = c.loop-number.relays.items in
    let more = c.push-in-loop-number.new.self.items in
    let basis = basis_in c.args.run.now in
    let made = c.in_ok-relay.ensures in
    let seats : RelaySeats = record { number = c.loop-number.number; relay = c.of.result; sender = c.in_ok-relay.sender; taker = c.in_ok-relay.taker } in
    record {
      relays = omega (arith, c.in_ok-push-2.ensures.len, so_far.relays);
      count = omega (arith, c.in_ok-push.ensures.len, so_far.count);
      given =
          all_with_one (IsMadeFor basis) relays more c.in_ok-relay.relay c.in_ok-push-2.ensures.items so_far.given (ap basis_in made.given);
      seats =
          all_with_one (AreNewSeats more basis) c.loop-number.all.items c.push.new.self.items seats c.in_ok-push.ensures.items
          (seats_more relays more c.in_ok-relay.relay basis c.loop-number.all.items c.in_ok-push-2.ensures.items so_far.seats)
          (seats_made relays more c.in_ok-relay.relay c.args.run.now seats so_far.relays c.in_ok-push-2.ensures.items c.of.ensures made.given made.sender made.taker made.sent);
    }
