use Rattle.scenario.specs.Setup.{Setup}
use Rattle.lookahead.specs.Between.{part_number}
use Rattle.lookahead.specs.Direct.{BelongTo, AreDirectUpTo}
use Rattle.lookahead.proofs.direct.take_links_from.Given as goal

abbrev pub invariant-loop-to : goal.invariant-loop-to
invariant-loop-to l = (s : Setup) → BelongTo l.links l.division l.twins s → AreDirectUpTo l.division.parts s (part_number l.division) l.from 0 l.fn.lengths → AreDirectUpTo l.division.parts s (part_number l.division) l.from l.to l.lengths
