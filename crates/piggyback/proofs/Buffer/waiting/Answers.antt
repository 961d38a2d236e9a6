use Rattle.std.proofs.Common.{◌≡◌, ◌≤◌, ℕ, eqb, None, List, map, filter, take, sym, ap, subst, ◌∙◌, arith}
use Rattle.std.specs.List.{count_by}
use Rattle.std.proofs.lemmas.Result.{IfOk-weaker}
use Rattle.incarnation.specs.declared.Update.{Update}
use Rattle.piggyback.specs.Picked.{Counted, HeldUpdates, is_candidate, waiting}
use Rattle.piggyback.proofs.Holding.{waiting-keyed, waiting-once}
use Rattle.piggyback.proofs.Buffer.waiting.Goals as goal

pub returns-clause-waiting : goal.returns-clause-waiting
returns-clause-waiting c =
    let items = c.self.inside.entries.items in
    let limit = c.args.limit in
    IfOk-weaker c.picked_of.result (λ updates. updates.items ≡ take c.len.result (map (λ (it : Counted). it.0) (filter (is_candidate limit None) c.deref.result.now)))
    (λ updates. updates.items ≡ waiting c.args.self.now limit) (λ updates first.
    first
    ∙ ap (λ (these : List Counted). take c.len.result (map (λ (it : Counted). it.0) (filter (is_candidate limit None) these))) c.deref.ensures.value
    ∙ waiting-keyed items c.len.result limit c.self.invariant (omega arith)
    ∙ ap (λ (held : HeldUpdates). waiting held limit) c.self.view_is) c.picked_of.ensures

pub returns-clause-each_subject_once : goal.returns-clause-each_subject_once
returns-clause-each_subject_once c =
    let limit = c.args.limit in
    IfOk-weaker c.picked_of.result (λ updates. updates.items ≡ waiting c.args.self.now limit)
    (λ updates. (subject : ℕ) → count_by (λ update. eqb update.subject subject) updates.items ≤ 1) (λ updates is subject.
    subst (λ (these : List Update). count_by (λ update. eqb update.subject subject) these ≤ 1) (sym is)
    (subst (λ (held : HeldUpdates). count_by (λ update. eqb update.subject subject) (waiting held limit) ≤ 1) c.self.view_is
    (waiting-once c.self.inside.entries.items limit subject))) (returns-clause-waiting c)
