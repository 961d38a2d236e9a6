use Rattle.std.proofs.Common.{◌≡◌, ◌++◌, ◌∷◌, [], map, append_assoc, ap, ◌∙◌, sym}
use Rattle.std.specs.FinMap.{contains_key}
use Rattle.std.specs.Vec.Iter.{drain_items}
use Rattle.std.proofs.lemmas.List.{map-append}
use Rattle.member.specs.StateOf.{pair_of}
use Rattle.windows.specs.WorldOf.{states_in, contents_in}
use Rattle.windows.proofs.Deliveries.{still_new, one_more_own, one_more_other}
use Rattle.windows.proofs.steps.split_events.Goals as goal

pub place-requires : goal.place-requires
place-requires g c =
    let own = contains_key (states_in c.args.members.now) in
    let before = contents_in (g.Q.EventQueue.set c.args.queue.now) in
    let event = c.in-Some.event in
    let rest = drain_items c.next.new.self in
    let all : c.args.events.now.items ≡ c.loop-event.yielded ++ event ∷ rest =
    c.loop-event.invariant.left ∙ ap (λ left. c.loop-event.yielded ++ left) c.in-Some.ensures.steps.0 in
    let pairs : map pair_of c.args.events.now.items ≡ map pair_of c.loop-event.yielded ++ pair_of event ∷ map pair_of rest =
    ap (map pair_of) all ∙ map-append pair_of c.loop-event.yielded (event ∷ rest) in
    record {
      new = ap (λ pending. contains_key pending event.key) c.loop-event.invariant.own ∙ still_new own before _ (map pair_of c.loop-event.yielded) _ (pair_of event) pairs c.requires.new;
    }

pub loop-event-preserved : goal.loop-event-preserved
loop-event-preserved g c =
    let own = contains_key (states_in c.args.members.now) in
    let event = c.in-Some.event in
    record {
      left = c.loop-event.invariant.left ∙ ap (λ left. c.loop-event.yielded ++ left) c.in-Some.ensures.steps.0 ∙ sym (append_assoc c.loop-event.yielded (event ∷ []) (drain_items c.next.new.self));
      own = one_more_own own _ _ _ c.loop-event.yielded event c.loop-event.invariant.own c.in_ok-place.ensures.own;
      others = one_more_other own _ _ _ c.loop-event.yielded event c.loop-event.invariant.others c.in_ok-place.ensures.others;
    }
