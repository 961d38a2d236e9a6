use Rattle.std.proofs.Common.{◌≡◌, ◌+◌, false, ◌++◌, ◌∷◌, [], map, take, drop, get_or, ap, ◌∙◌, sym, subst, arith}
use Rattle.std.specs.FinMap.{contains_key}
use Rattle.std.proofs.Math.ListN.{take-append-drop}
use Rattle.std.proofs.lemmas.List.{map-append, map_more, drop_more}
use Rattle.base.specs.Rising.{AreNew}
use Rattle.member.specs.declared.event.Event.{Event}
use Rattle.member.specs.StateOf.{pair_of}
use Rattle.member_laws.specs.Runs.{Cluster}
use Rattle.windows.specs.Parts.{with_arrivals}
use Rattle.windows.specs.WorldOf.{world_of}
use Rattle.windows.proofs.Cuts.{joined_joined}
use Rattle.parallel_run.proofs.HearingMessages.{new_behind}
use Rattle.parallel_run.proofs.exchange.receive.Goals as goal

pub receive-requires-clause-new : goal.receive-requires-clause-new
receive-requires-clause-new g c =
    let i = c.loop-event.event-index in
    let all = c.args.events.now in
    let event = c.event-item.result in
    let before = world_of g.Q.EventQueue.set c.args.part.now in
    let items : take i all ++ get_or all i event ∷ drop (i + 1) all ≡ all = ap (λ es. take i all ++ es) (sym (drop_more all i event (omega arith))) ∙ take-append-drop i all in
    let pairs = map-append pair_of (take i all) (get_or all i event ∷ drop (i + 1) all) in
    let new = new_behind (map pair_of (take i all)) (map pair_of (get_or all i event ∷ drop (i + 1) all)) before.pending
    (subst (AreNew before.pending) pairs (subst (λ es. AreNew before.pending (map pair_of es)) (sym items) c.requires.new)) in
    let same : c.in_ok-copied.field-0 ≡ get_or all i event = c.in_ok-copied.ensures ∙ c.event-item.is in
    ap (λ (w : Cluster). contains_key w.pending c.in_ok-copied.field-0.key) c.loop-event.invariant.come
    ∙ subst (λ (e : Event). contains_key (with_arrivals before (map pair_of (take i all))).pending e.key ≡ false) (sym same) new.unlike_pending.0

pub loop-event-preserved : goal.loop-event-preserved
loop-event-preserved g c =
    let i = c.loop-event.event-index in
    let all = c.args.events.now in
    let event = c.event-item.result in
    let before = world_of g.Q.EventQueue.set c.args.part.now in
    let more = map_more pair_of all i event (omega arith) in
    let same : c.in_ok-copied.field-0 ≡ get_or all i event = c.in_ok-copied.ensures ∙ c.event-item.is in
    record {
      come =
          c.in_ok-receive.ensures.world
          ∙ ap (λ (w : Cluster). with_arrivals w (pair_of c.in_ok-copied.field-0 ∷ [])) c.loop-event.invariant.come
          ∙ ap (λ (e : Event). with_arrivals (with_arrivals before (map pair_of (take i all))) (pair_of e ∷ [])) same
          ∙ joined_joined before (map pair_of (take i all)) (pair_of (get_or all i event) ∷ [])
          ∙ ap (with_arrivals before) (sym more);
      number = c.in_ok-receive.ensures.number ∙ c.loop-event.invariant.number;
    }
