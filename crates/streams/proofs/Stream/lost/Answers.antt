use Rattle.std.proofs.Common.{arith}
use Rattle.streams.proofs.DrawLemmas.{lost_drawn, lost_never, lost_always}
use Rattle.streams.proofs.Stream.lost.Goals as goal

pub returns-in-0 : goal.returns-in-0
returns-in-0 c = rw c.in-0.is (lost_never _)

pub returns-in-1-to-999999 : goal.returns-in-1-to-999999
returns-in-1-to-999999 c = lost_drawn _ _ _ _ (omega arith) (omega arith) c.below.ensures.drawn

pub returns-in_default : goal.returns-in_default
returns-in_default c = lost_always _ _ (omega arith)
