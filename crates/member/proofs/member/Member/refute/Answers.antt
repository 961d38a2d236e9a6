use Rattle.member.specs.StateOf.{effect_of}
use Rattle.member.proofs.CounterOverflow.{overflow_refuted, overflow_out}
use Rattle.member.proofs.member.Member.refute.Goals as goal

pub returns-then-claimed-ge-COUNTER_LIMIT :
    goal.returns-then-claimed-ge-COUNTER_LIMIT
returns-then-claimed-ge-COUNTER_LIMIT c =
    overflow_out (overflow_refuted c.args.here.now.scenario.now c.args.here.now.key c.args.claimed (effect_of c.args.self.now c.args.effects.now) c.if-claimed-ge-COUNTER_LIMIT.true)
