use Rattle.std.proofs.Common.{◌≡◌, true, not, ap, sym, subst, ◌∙◌}
use Rattle.std.specs.FinMap.{get, insert}
use Rattle.streams.specs.Draw.{words_of}
use Rattle.streams.proofs.RangeLemmas.{words_of_fit}
use Rattle.probing.specs.ProbeOrder.{ProbeOrder, IsSoundOrder}
use Rattle.probing.specs.Displaced.{displaced_of}
use Rattle.membership.specs.Table.{Known}
use Rattle.lives.specs.Lives.{life_of}
use Rattle.member.specs.Here.{HoldsOthers}
use Rattle.member.specs.State.{is_probed}
use Rattle.member.proofs.Holds.{holds_put, holds_newcomer, put_there}
use Rattle.member.proofs.member.Member.put_newcomer.Goals as goal

pub displace-requires : goal.displace-requires
displace-requires c = c.requires.known.listed c.args.update.now.subject (ap is_probed c.requires.new)

pub returns-clause-kept : goal.returns-clause-kept
returns-clause-kept c =
    let s = c.args.here.now.scenario.now in
    let m = c.args.here.now.key.to in
    let self = c.args.self.now in
    let contact = (life_of self.life).contact in
    let u = c.args.update.now in
    let table : Known = insert self.table u.subject (u.claim, u.inc) in
    let put : HoldsOthers s m table self.rota self.probe contact = holds_put s m self.table self.rota self.probe contact u.subject (u.claim, u.inc) c.requires.member c.requires.other c.requires.up c.requires.known in
    let there : is_probed (get table u.subject) ≡ true = ap is_probed (put_there self.table u.subject (u.claim, u.inc)) ∙ ap not c.requires.up in
    let rota : c.displace.new.self ≡ (displaced_of (words_of self.stream) u.subject self.rota).0 = ap (λ p. p.0) c.in_ok-displace.ensures.ok in
    subst (λ (t : Known). HoldsOthers s m t c.displace.new.self self.probe contact) (sym c.in_ok-set.ensures.ok)
    (subst (λ (r : ProbeOrder). HoldsOthers s m table r self.probe contact) (sym rota)
    (holds_newcomer s m table self.rota self.probe contact (words_of self.stream) u.subject (words_of_fit self.stream) there (subst IsSoundOrder rota c.in_ok-displace.ensures.sound) put))
