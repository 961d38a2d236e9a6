use Rattle.std.proofs.Common.{refl, arith}
use Rattle.incidents.proofs.counts.Counts.new.Goals as goal

pub returns : goal.returns
returns c = record {
  all = refl;
  few = omega arith;
  alarms = refl;
  deaths = refl;
  well = refl;
  died = c.in_ok-died.ensures.none;
  members = omega (arith, c.in_ok-died.ensures.len);
}
