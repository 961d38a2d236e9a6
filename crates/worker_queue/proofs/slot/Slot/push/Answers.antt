use Rattle.std.proofs.Common.{[], ◌∷◌, ◌++◌, ap, ◌∙◌, sym, subst}
use Rattle.std.proofs.lemmas.Bool.{false≢true}
use Rattle.worker_queue.specs.Slots.{by_key, AreUnlike, AreFalling}
use Rattle.worker_queue.proofs.Lists.{by_key-push, unlike_push}
use Rattle.worker_queue.proofs.slot.Slot.push.Goals as goal

pub invariant_of-self : goal.invariant_of-self
invariant_of-self g c = record {
  unlike = subst (AreUnlike g.E.Keyed.key) (sym c.make_room.ensures.same) c.args.self.now.unlike;
  falling = λ sorted. subst (AreFalling g.E.Keyed.key) (sym c.make_room.ensures.same) (c.args.self.now.falling sorted);
}

pub invariant_of-self-2 : goal.invariant_of-self-2
invariant_of-self-2 g c = record {
  unlike =
      subst (AreUnlike g.E.Keyed.key) (sym (c.push_reserved.ensures.items ∙ ap (λ l. l ++ c.args.event ∷ []) c.make_room.ensures.same))
      (unlike_push g.E.Keyed.key c.args.self.now.events.items c.args.event c.args.self.now.unlike c.requires);
  falling = λ sorted. absurd (false≢true sorted);
}

pub returns-clause-ok : goal.returns-clause-ok
returns-clause-ok g c =
    ap (by_key g.E.Keyed.key) (c.push_reserved.ensures.items ∙ ap (λ l. l ++ c.args.event ∷ []) c.make_room.ensures.same)
    ∙ by_key-push g.E.Keyed.key c.args.self.now.events.items c.args.event c.requires
