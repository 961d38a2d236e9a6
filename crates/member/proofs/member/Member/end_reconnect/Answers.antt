use Rattle.std.proofs.Common.{ℕ, ◌≤◌, length, ap, arith, sym, ◌∙◌}
use Rattle.lives.specs.Lives.{LifeState, life_of}
use Rattle.lives.specs.Regards.{failed_among}
use Rattle.member.specs.Effects.{Effect}
use Rattle.member.specs.StateOf.{effect_of}
use Rattle.member.proofs.Tries.{makes_from, few_listed, reconnect_tried}
use Rattle.member.proofs.member.Member.end_reconnect.Goals as goal

pub try_any-requires-clause-few : goal.try_any-requires-clause-few
try_any-requires-clause-few c =
    let few : length c.deref.result.now ≤ c.members.result =
    few_listed c.deref.result.now c.members.result (life_of c.reap.new.self).regards (c.deref.ensures.value ∙ c.in_ok-failed.ensures.failed) in
    omega (arith, few, c.members.ensures.at_most_16384)

pub returns : goal.returns
returns c =
    let a = c.args in
    let o = effect_of a.self.now a.effects.now in
    let life = life_of c.reap.new.self in
    let reaped : Effect = record { state = record o.state { life = life }; events = o.events; rows = o.rows } in
    makes_from
    (reconnect_tried a.here.now.scenario.now a.here.now.key c.in-Some.serf a.here.now.scenario.now.serf c.deref.result.now o reaped (sym c.in-Some.is ∙ c.serf-settings.ensures.value)
    (ap (λ (l : LifeState). record o { state = record o.state { life = l } }) c.reap.ensures)
    (c.deref.ensures.value ∙ c.in_ok-failed.ensures.failed ∙ ap (λ (n : ℕ). failed_among n life.regards) c.members.ensures.count))
    c.try_any.ensures
