use Rattle.std.proofs.Common.{◌≡◌, ◌<◌, ◌-◌, ◌∙◌, ap, length, Some, None, IfSome, sym, subst}
use Rattle.std.specs.List.{slice_get}
use Rattle.std.proofs.lemmas.Bool.{false≢true}
use Rattle.std.proofs.lemmas.Option.{slice_get-get_or}
use Rattle.base.specs.declared.key.Key.{Key}
use Rattle.base.specs.Order.{IsBefore}
use Rattle.worker_queue.specs.Slots.{by_key, NoneIsBefore}
use Rattle.worker_queue.proofs.Ends.{none_in_none, none_before_moment, none_before_first}
use Rattle.worker_queue.proofs.slot.Slot.find.Goals as goal

pub returns-in_default-clause-none : goal.returns-in_default-clause-none
returns-in_default-clause-none g c =
    none_in_none g.E.Keyed.key c.args.self.now.events.items c.args.limit.now (subst (λ l. None ≡ slice_get l (length l - 1)) c.deref.ensures.value c.in_default.ensures.value)

pub returns-then-not-is_before-clause-none : goal.returns-then-not-is_before-clause-none
returns-then-not-is_before-clause-none g c =
    let e = c.in-Some.any.now in
    none_before_moment g.E.Keyed.key c.args.self.now.events.items e (subst (λ l. Some e ≡ slice_get l (length l - 1)) c.deref.ensures.value c.in-Some.ensures.value) c.first_key.result c.args.limit.now
    c.args.self.now.unlike c.requires
    (λ q before. subst (λ (k : Key). q.at < k.at) c.key.ensures ((c.first_key.ensures q).0 before)) (λ before. false≢true (c.if-not-is_before.ensures.1 before))

pub returns-then-is_before-clause-before : goal.returns-then-is_before-clause-before
returns-then-is_before-clause-before g c =
    let xs = c.find_least-place.new.self.events.items in
    let e = c.index.result.now in
    let at : slice_get xs c.find_least-place.result ≡ Some e = slice_get-get_or xs c.find_least-place.result e c.find_least-place.ensures.within ∙ ap Some (sym c.index.ensures) in
    subst (λ o. IfSome o (λ event. IsBefore (g.E.Keyed.key event) c.args.limit.now)) (sym at) (subst (λ k. IsBefore k c.args.limit.now) c.key-2.ensures (c.is_before-2.ensures.0 c.if-is_before.true))

pub returns-else-is_before-clause-none : goal.returns-else-is_before-clause-none
returns-else-is_before-clause-none g c =
    let xs = c.find_least-place.new.self.events.items in
    let e = c.index.result.now in
    let at : slice_get xs c.find_least-place.result ≡ Some e = slice_get-get_or xs c.find_least-place.result e c.find_least-place.ensures.within ∙ ap Some (sym c.index.ensures) in
    subst (λ m. NoneIsBefore m c.args.limit.now) c.find_least-place.ensures.same
    (none_before_first g.E.Keyed.key (slice_get xs c.find_least-place.result) (by_key g.E.Keyed.key xs) e c.args.limit.now at c.find_least-place.ensures.first
    (λ before. false≢true (sym c.if-is_before.false ∙ c.is_before-2.ensures.1 (subst (λ k. IsBefore k c.args.limit.now) (sym c.key-2.ensures) before))))
