use Rattle.std.proofs.Common.{ap, sym, subst}
use Rattle.streams.specs.Draw.{words_of}
use Rattle.streams.proofs.RangeLemmas.{words_of_fit}
use Rattle.probing.specs.ProbeOrder.{ProbeOrder}
use Rattle.lives.specs.Lives.{life_of}
use Rattle.member.specs.Here.{HoldsOthers}
use Rattle.member.proofs.Holds.{holds_next, next_is_if}
use Rattle.member.proofs.member.Member.next_target.Goals as goal

pub returns-clause-member : goal.returns-clause-member
returns-clause-member c =
    let self = c.args.self.now in
    next_is_if c.args.here.now.scenario.now c.args.here.now.key.to self.table self.rota self.probe _ (words_of self.stream) (words_of_fit self.stream) c.requires
    c.next.result (ap (λ p. p.0) c.next.ensures.drawn)

pub returns-clause-kept : goal.returns-clause-kept
returns-clause-kept c =
    let s = c.args.here.now.scenario.now in
    let m = c.args.here.now.key.to in
    let self = c.args.self.now in
    let contact = (life_of self.life).contact in
    subst (λ (r : ProbeOrder). HoldsOthers s m self.table r self.probe contact) (sym (ap (λ p. p.1) c.next.ensures.drawn))
    (holds_next s m self.table self.rota self.probe contact (words_of self.stream) (words_of_fit self.stream) c.requires)
