use Rattle.std.proofs.Common.{◌≡◌, length}
use Rattle.std.specs.List.{AllByRecursion}
use Rattle.parallel_run.specs.Relaying.{basis_in}
use Rattle.parallel_run.specs.Relays.{AreNewSeats, IsMadeFor}
use Rattle.parallel_run.proofs.row_relay.relays_of.Given as goal

abbrev pub invariant-loop-number : goal.invariant-loop-number
invariant-loop-number l = record {
  relays : length l.relays.items ≡ l.number;
  count : length l.all.items ≡ l.number;
  given : AllByRecursion (IsMadeFor (basis_in l.run)) l.relays.items;
  seats : AllByRecursion (AreNewSeats l.relays.items (basis_in l.run)) l.all.items;
}
