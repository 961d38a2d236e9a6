use Rattle.streams.proofs.DrawLemmas.{shuffle_drawn, shuffle_short}
use Rattle.streams.proofs.Stream.shuffle.Goals as goal

pub returns-then-items-gt1-clause-drawn : goal.returns-then-items-gt1-clause-drawn
returns-then-items-gt1-clause-drawn c =
    rw (← c.self.view_is) (shuffle_drawn _ _ _ _ c.if-items-gt1.true c.shuffle.ensures.drawn)

pub returns-else-items-gt1-clause-drawn : goal.returns-else-items-gt1-clause-drawn
returns-else-items-gt1-clause-drawn c = shuffle_short _ _ c.if-items-gt1.false
