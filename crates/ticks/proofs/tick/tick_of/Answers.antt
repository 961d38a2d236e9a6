use Rattle.std.proofs.Common.{refl}
use Rattle.ticks.proofs.Words.{in_none}
use Rattle.ticks.proofs.tick.tick_of.Goals as goal

pub returns-clause-none : goal.returns-clause-none
returns-clause-none c none tick =
    in_none c.args.word.now tick (c.in_default.ensures.none refl tick) (c.in_default-tick_in.ensures.none refl tick) (c.tick_in-3.ensures.none none tick)
