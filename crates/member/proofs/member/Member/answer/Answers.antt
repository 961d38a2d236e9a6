use Rattle.std.proofs.Common.{sym, subst}
use Rattle.member.specs.State.{State}
use Rattle.member.specs.Here.{HoldsMembers}
use Rattle.member.proofs.Holds.{holds_answered}
use Rattle.member.proofs.member.Member.answer.Goals as goal

pub returns-clause-kept : goal.returns-clause-kept
returns-clause-kept c =
    let s = c.args.here.now.scenario.now in
    let m = c.args.here.now.key.to in
    let self = c.args.self.now in
    subst (λ (t : State). HoldsMembers s m t) (sym c.mark_answered.ensures) (holds_answered s m self.table self.rota c.args.seq self.probe _ c.requires)
