use Rattle.std.proofs.Common.{inl, inr, refl, arith}
use Rattle.partitioning.proofs.choosing.longer.Goals as goal

pub returns-then-ticks-choice : goal.returns-then-ticks-choice
returns-then-ticks-choice c = (c.in_ok-ticks.ticks, c.in_ok-ticks.ensures, inl (omega arith, refl, refl))

pub returns : goal.returns
returns c = (c.in_ok-ticks.ticks, c.in_ok-ticks.ensures, inr (omega arith, refl, refl))
