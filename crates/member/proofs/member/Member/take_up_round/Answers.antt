use Rattle.std.proofs.Common.{ap, sym, subst}
use Rattle.streams.specs.Draw.{words_of}
use Rattle.streams.proofs.RangeLemmas.{words_of_fit}
use Rattle.probing.specs.ProbeOrder.{ProbeOrder}
use Rattle.lives.specs.Lives.{life_of}
use Rattle.member.specs.Here.{HoldsOthers}
use Rattle.member.proofs.Holds.{holds_mixed}
use Rattle.member.proofs.member.Member.take_up_round.Goals as goal

pub returns-in-Hashicorp-clause-kept : goal.returns-in-Hashicorp-clause-kept
returns-in-Hashicorp-clause-kept c =
    let s = c.args.here.now.scenario.now in
    let m = c.args.here.now.key.to in
    let self = c.args.self.now in
    let contact = (life_of self.life).contact in
    subst (λ (r : ProbeOrder). HoldsOthers s m self.table r self.probe contact) (sym (ap (λ p. p.0) c.mix.ensures.drawn))
    (holds_mixed s m self.table self.rota self.probe contact (words_of self.stream) (words_of_fit self.stream) c.requires)
