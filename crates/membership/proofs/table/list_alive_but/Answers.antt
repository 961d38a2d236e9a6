use Rattle.std.proofs.Common.{◌&&◌, not, nat_eq, true, false, map, filter, ap, ◌∙◌, sym}
use Rattle.membership.specs.Table.{is_alive}
use Rattle.membership.proofs.Columns.{Entry, none_more, up_more}
use Rattle.membership.proofs.table.list_alive_but.Goals as goal
use Rattle.membership.proofs.table.list_alive_but.Goals.{then-helps+in_ok-push, else-helps}

pub loop-number-preserved-in_default : goal.loop-number-preserved-in_default
loop-number-preserved-in_default c incs =
    c.loop-number.invariant incs
    ∙ ap (λ l. map (λ (e : Entry). e.0) (filter (λ (e : Entry). is_alive e.1.0 && not (nat_eq e.0 c.args.member)) l))
    (sym (none_more incs c.args.claims.now _ c.loop-number.number c.loop-number-test.true (sym c.claim_of.ensures ∙ c.in_default.is)))

pub loop-number-preserved : goal.loop-number-preserved
loop-number-preserved c incs =
    elim c.if-helps.branch [
      | then-helps+in_ok-push w ↦
          up_more c.args.member c.args.claims.now _ incs c.loop-number.number c.in-Some.claim c.loop-number-test.true (sym c.claim_of.ensures ∙ c.in-Some.is) c.loop-number.members.items c.if-helps.members.items true
          (sym w.if-helps.true ∙ c.helps.ensures) (c.loop-number.invariant incs) (ap (λ v. v.items) w.members-is ∙ w.in_ok-push.ensures.items)
      | else-helps w ↦
          up_more c.args.member c.args.claims.now _ incs c.loop-number.number c.in-Some.claim c.loop-number-test.true (sym c.claim_of.ensures ∙ c.in-Some.is) c.loop-number.members.items c.if-helps.members.items false
          (sym w.if-helps.false ∙ c.helps.ensures) (c.loop-number.invariant incs) (ap (λ v. v.items) w.members-is)
    ]
