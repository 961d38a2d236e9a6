use Rattle.std.proofs.Common.{arith}
use Rattle.lookahead_windows.proofs.Ways.{goes_by}
use Rattle.lookahead_windows.proofs.course.rounds_of.Goals as goal

pub returns-clause-rounds : goal.returns-clause-rounds
returns-clause-rounds c =
    goes_by _ c.end.ensures.sound c.requires.divides c.requires.below c.requires.count c.requires.into c.end.ensures.value ((c.shortest_of.ensures c.shortest_of.result c.shortest_of.type_inv).1 (omega arith))
