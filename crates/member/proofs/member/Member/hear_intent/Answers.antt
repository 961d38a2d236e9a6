use Rattle.std.proofs.Common.{ap, ◌∙◌}
use Rattle.lives.specs.Lives.{LifeState, life_of}
use Rattle.member.proofs.Holds.{holds_alike}
use Rattle.member.proofs.member.Member.hear_intent.Goals as goal

pub set_gossip-requires : goal.set_gossip-requires
set_gossip-requires c =
    let self = c.args.self.now in
    holds_alike c.args.here.now.scenario.now c.args.here.now.key.to self.table self.rota self.probe (life_of self.life).contact _ (ap (λ (l : LifeState). l.contact) c.in_ok-put_intent.ensures ∙ ap (λ (l : LifeState). l.contact) c.in_ok-mark.ensures) c.requires
