use Rattle.std.proofs.Common.{◌<◌, inl, inr, sym, subst, arith}
use Rattle.std.specs.Option.{IfSome}
use Rattle.scenario.specs.Setup.{member_count}
use Rattle.lives.specs.Lives.{LifeState}
use Rattle.member.proofs.Openings.{holds_none}
use Rattle.member.proofs.member.Member.of.Goals as goal

pub returns-clause-known : goal.returns-clause-known
returns-clause-known c =
    let n = member_count c.args.scenario.now in
    holds_none c.args.scenario.now c.args.member _ _ _ _ c.new.ensures c.in_ok-empty_rota.ensures.members c.in_ok-empty_rota.ensures.sound tt
    (subst (λ (l : LifeState). IfSome l.contact (λ q. q < n)) (sym c.first.ensures) tt)

pub returns-clause-within : goal.returns-clause-within
returns-clause-within c = λ overflow.
    let number = c.first_number_by.ensures.within in
    elim overflow [ inl h ↦ omega arith | inr more ↦ elim more [ inl h ↦ omega arith | inr h ↦ omega arith ] ]
