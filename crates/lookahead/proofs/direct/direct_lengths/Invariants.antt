use Rattle.scenario.specs.Setup.{Setup}
use Rattle.lookahead.specs.Between.{part_number}
use Rattle.lookahead.specs.Direct.{BelongTo, AreDirectUpTo}
use Rattle.lookahead.proofs.direct.direct_lengths.Given as goal

abbrev pub invariant-loop-from : goal.invariant-loop-from
invariant-loop-from l = (s : Setup) → BelongTo l.links l.division l.twins s → AreDirectUpTo l.division.parts s (part_number l.division) l.from 0 l.lengths
