use Rattle.std.proofs.Common.{[], ◌∷◌, ◌++◌, map, ap, ◌∙◌, sym}
use Rattle.membership.specs.Numbers.{numbers_of}
use Rattle.membership.specs.Table.{update_by}
use Rattle.membership.proofs.Columns.{none_more, updates_more}
use Rattle.membership.proofs.table.list_updates.Goals as goal

pub loop-number-preserved-in_default : goal.loop-number-preserved-in_default
loop-number-preserved-in_default c =
    c.loop-number.invariant ∙ ap (map (update_by c.args.accuser)) (sym (none_more (numbers_of c.args.incs.now) c.args.claims.now _ c.loop-number.number c.loop-number-test.true (sym c.claim_of.ensures ∙ c.in_default.is)))

pub loop-number-preserved : goal.loop-number-preserved
loop-number-preserved c =
    updates_more c.args.accuser c.args.claims.now _ (numbers_of c.args.incs.now) c.loop-number.number c.in-Some.claim c.loop-number-test.true (sym c.claim_of.ensures ∙ c.in-Some.is) c.loop-number.updates.items c.push.new.self.items
    c.loop-number.invariant
    (c.in_ok-push.ensures.items ∙ ap (λ n. c.loop-number.updates.items ++ update_by c.args.accuser (c.loop-number.number, (c.in-Some.claim, n)) ∷ []) c.at.ensures)
