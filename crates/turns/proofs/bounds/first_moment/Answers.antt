use Rattle.std.proofs.Common.{◌+◌, arith}
use Rattle.turns.proofs.bounds.first_moment.Goals as goal

pub returns-in-None-clause-over : goal.returns-in-None-clause-over
returns-in-None-clause-over g c = (c.in-None.ensures (c.args.end + 1)).1 tt

pub returns-then-last-ticks-clause-over : goal.returns-then-last-ticks-clause-over
returns-then-last-ticks-clause-over g c = (c.in-Some.ensures (c.args.end + 1)).1 (omega (arith, c.ticks-last.ensures, c.ticks.ensures))

pub returns-clause-first : goal.returns-clause-first
returns-clause-first g c = record {
  none = (c.in-Some.ensures c.in-Some.first).1 (omega arith);
  some = λ t h. (c.in-Some.ensures t).0 h;
  in_time = omega (arith, c.ticks-last.ensures, c.ticks.ensures);
}
