use Rattle.std.proofs.Common.{sym, subst}
use Rattle.membership.specs.Table.{Known}
use Rattle.lives.specs.Lives.{life_of}
use Rattle.member.specs.Here.{HoldsOthers}
use Rattle.member.proofs.Holds.{holds_forgotten}
use Rattle.member.proofs.member.Member.forget.Goals as goal

pub returns-clause-kept : goal.returns-clause-kept
returns-clause-kept c =
    let s = c.args.here.now.scenario.now in
    let m = c.args.here.now.key.to in
    let self = c.args.self.now in
    let contact = (life_of self.life).contact in
    subst (λ (t : Known). HoldsOthers s m t self.rota self.probe contact) (sym c.remove.ensures)
    (holds_forgotten s m self.table self.rota self.probe contact c.args.member c.requires.absent c.requires.known)
