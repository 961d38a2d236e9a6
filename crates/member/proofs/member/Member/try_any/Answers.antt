use Rattle.member.specs.StateOf.{effect_of}
use Rattle.member.proofs.Tries.{makes_from, some_tried}
use Rattle.member.proofs.member.Member.try_any.Goals as goal

pub returns : goal.returns
returns c =
    let a = c.args in
    makes_from (some_tried a.here.now.scenario.now a.here.now.key a.serf a.failed.now (effect_of a.self.now a.effects.now) c.if-failed-eq0.false) c.try_failed.ensures
