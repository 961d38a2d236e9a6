use Rattle.std.proofs.Common.{◌≤◌, eqb, List, sym, ap, subst, arith, ◌∙◌}
use Rattle.std.specs.List.{count_by}
use Rattle.incarnation.specs.declared.Update.{Update}
use Rattle.piggyback.specs.Picked.{HeldUpdates, left_after, picked}
use Rattle.piggyback.proofs.Sorting.{no_longer}
use Rattle.piggyback.proofs.Holding.{held-sent, picked-keyed, once-keyed}
use Rattle.piggyback.proofs.Buffer.pick.Goals as goal

pub count_sent-requires-clause-once : goal.count_sent-requires-clause-once
count_sent-requires-clause-once c subject =
    let items = c.self.inside.entries.items in
    subst (λ (updates : List Update). count_by (λ update. eqb update.subject subject) updates ≤ 1)
    (sym (c.deref-2.ensures.value ∙ (rw c.deref.ensures.value at c.in_ok-updates.ensures) ∙ picked-keyed items c.args.carry c.args.limit c.args.buddy c.self.invariant))
    (once-keyed items c.args.carry c.args.limit c.args.buddy subject)

pub invariant_of-self : goal.invariant_of-self
invariant_of-self c = c.count_sent.ensures.ordered

pub returns-clause-answer : goal.returns-clause-answer
returns-clause-answer c =
    (rw c.deref.ensures.value at c.in_ok-updates.ensures)
    ∙ picked-keyed c.self.inside.entries.items c.args.carry c.args.limit c.args.buddy c.self.invariant
    ∙ ap (λ (held : HeldUpdates). picked held c.args.carry c.args.limit c.args.buddy) c.self.view_is

pub returns-clause-ok : goal.returns-clause-ok
returns-clause-ok c =
    let items = c.self.inside.entries.items in
    let sent = c.deref-2.ensures.value ∙ returns-clause-answer c in
    held-sent c.deref-2.result.now c.args.limit items _ c.count_sent.ensures
    ∙ ap (λ (held : HeldUpdates). left_after held c.deref-2.result.now c.args.limit) c.self.view_is
    ∙ ap (λ (updates : List Update). left_after c.args.self.now updates c.args.limit) sent

pub returns-clause-at_most : goal.returns-clause-at_most
returns-clause-at_most c = omega (arith, c.deref-2.ensures.len, no_longer c.args.carry _ _ (c.deref-2.ensures.value ∙ c.in_ok-updates.ensures))

pub returns-clause-each_subject_once : goal.returns-clause-each_subject_once
returns-clause-each_subject_once c subject =
    let items = c.self.inside.entries.items in
    subst (λ (updates : List Update). count_by (λ update. eqb update.subject subject) updates ≤ 1)
    (sym ((rw c.deref.ensures.value at c.in_ok-updates.ensures) ∙ picked-keyed items c.args.carry c.args.limit c.args.buddy c.self.invariant))
    (once-keyed items c.args.carry c.args.limit c.args.buddy subject)
