use Rattle.std.proofs.Common.{arith}
use Rattle.incidents.proofs.Listing.{of_as_many}
use Rattle.incidents.proofs.incidents.Incidents.new.Goals as goal

pub returns-clause-none : goal.returns-clause-none
returns-clause-none c = record {
  few = c.requires;
  lives = record {
    up = c.in_ok-lives.ensures.up;
    restarted = c.in_ok-lives.ensures.restarted;
    members = omega (arith, c.in_ok-lives.ensures.members);
    also = omega (arith, c.in_ok-lives.ensures.also);
  };
  doubts = record {
    suspected = c.in_ok-doubts.ensures.suspected;
    dead = c.in_ok-doubts.ensures.dead;
    members = omega (arith, c.in_ok-doubts.ensures.members);
    also = omega (arith, c.in_ok-doubts.ensures.also);
  };
  counts = c.in_ok-counts.ensures;
  whole = c.in_ok-whole.ensures;
  lines = of_as_many _ _ _ c.in_ok-lines.ensures (omega arith);
}
