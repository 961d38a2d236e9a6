use Rattle.std.proofs.Common.{◌++◌, ◌∷◌, [], map, append_assoc, ap, ◌∙◌, sym, subst}
use Rattle.std.specs.FinMap.{contains_key}
use Rattle.std.proofs.lemmas.List.{map-append}
use Rattle.member.specs.StateOf.{pair_of}
use Rattle.lookahead.specs.Between.{part_number}
use Rattle.turns.specs.Parts.{HaveCome}
use Rattle.turns.proofs.Coming.{none_come, more_come, new_in_turn, members_stay}
use Rattle.turns.proofs.parts.deliver.Goals as goal

pub loop-event-init : goal.loop-event-init
loop-event-init g c = record {
  left = c.into_iter-event-iterator.ensures.into_iter_gives.0;
  come = none_come g.Q.EventQueue.set (part_number c.args.division.now) c.args.parts.now.items;
}

pub place-requires-clause-count : goal.place-requires-clause-count
place-requires-clause-count g c = c.loop-event.invariant.come.count ∙ c.requires.count

pub place-requires-clause-members : goal.place-requires-clause-members
place-requires-clause-members g c = λ i part here m low is.
    let old = members_stay g.Q.EventQueue.set (part_number c.args.division.now) c.args.parts.now.items c.loop-event.parts.items (map pair_of c.loop-event.yielded) c.loop-event.invariant.come i part here in
    ap (λ ms. contains_key ms m) old.2 ∙ c.requires.members i old.0 old.1 m low is

pub place-requires-clause-new : goal.place-requires-clause-new
place-requires-clause-new g c =
    let items = ap (λ es. c.loop-event.yielded ++ es) (sym c.in-Some.ensures.steps.0) ∙ c.loop-event.invariant.left in
    new_in_turn g.Q.EventQueue.set (part_number c.args.division.now) c.args.parts.now.items c.loop-event.parts.items c.loop-event.yielded c.next.new.self.rest.items c.args.events.items
    c.in-Some.event items c.requires.new c.loop-event.invariant.come

pub loop-event-preserved : goal.loop-event-preserved
loop-event-preserved g c =
    let set = g.Q.EventQueue.set in
    let deal = c.args.division.now in
    record {
      left =
          append_assoc c.loop-event.yielded (c.in-Some.event ∷ []) c.next.new.self.rest.items
          ∙ ap (λ es. c.loop-event.yielded ++ es) (sym c.in-Some.ensures.steps.0) ∙ c.loop-event.invariant.left;
      come =
          subst (HaveCome set (part_number deal) c.args.parts.now.items c.place.new.parts.items) (sym (map-append pair_of c.loop-event.yielded (c.in-Some.event ∷ [])))
          (more_come set (part_number deal) c.args.parts.now.items c.loop-event.parts.items c.place.new.parts.items (map pair_of c.loop-event.yielded) (pair_of c.in-Some.event ∷ [])
          c.loop-event.invariant.come c.in_ok-place.ensures);
    }
