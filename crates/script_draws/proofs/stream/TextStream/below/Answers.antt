use Rattle.streams.proofs.DrawLemmas.{below_drawn, below_one}
use Rattle.script_draws.proofs.stream.TextStream.below.Goals as goal

pub returns-then-bound-eq1-clause-drawn : goal.returns-then-bound-eq1-clause-drawn
returns-then-bound-eq1-clause-drawn c = rw c.if-bound-eq1.true (below_one _)

pub returns-clause-drawn : goal.returns-clause-drawn
returns-clause-drawn c =
    rw (← c.self.view_is) (below_drawn _ _ _ _ _ c.ranges.bound.fits c.if-bound-eq1.false c.random_range.ensures.drawn)
