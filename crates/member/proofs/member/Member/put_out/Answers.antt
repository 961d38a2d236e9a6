use Rattle.std.proofs.Common.{sym, subst}
use Rattle.std.specs.FinMap.{insert}
use Rattle.probing.specs.ProbeOrder.{ProbeOrder}
use Rattle.membership.specs.Table.{Known}
use Rattle.lives.specs.Lives.{life_of}
use Rattle.member.specs.Here.{HoldsOthers}
use Rattle.member.proofs.Holds.{holds_confirm}
use Rattle.member.proofs.member.Member.put_out.Goals as goal

pub returns-clause-kept : goal.returns-clause-kept
returns-clause-kept c =
    let s = c.args.here.now.scenario.now in
    let m = c.args.here.now.key.to in
    let self = c.args.self.now in
    let contact = (life_of self.life).contact in
    let u = c.args.update.now in
    let table : Known = insert self.table u.subject (u.claim, u.inc) in
    subst (λ (t : Known). HoldsOthers s m t c.remove.new.self self.probe contact) (sym c.in_ok-set.ensures.ok)
    (subst (λ (r : ProbeOrder). HoldsOthers s m table r self.probe contact) (sym c.remove.ensures.removed)
    (holds_confirm s m self.table self.rota self.probe contact u.subject (u.claim, u.inc) c.requires.member c.requires.other c.requires.known))
