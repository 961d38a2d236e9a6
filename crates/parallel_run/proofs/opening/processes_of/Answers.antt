use Rattle.std.proofs.Common.{◌≡◌, suc, ◌<◌, [], ◌∷◌, ◌++◌, map, length, Vec, Global, append_assoc, refl, ap, ◌∙◌, sym, subst, arith}
use Rattle.std.specs.Box.{box_value}
use Rattle.std.specs.List.{AllByRecursion}
use Rattle.std.proofs.lemmas.List.{length-append, length-map}
use Rattle.std.proofs.lemmas.Option.{slice_get_read}
use Rattle.member.specs.Opening.{opening}
use Rattle.windows.specs.declared.part.Part.{Part}
use Rattle.lookahead_windows.specs.Starts.{IsFirstMoment}
use Rattle.turns.proofs.Coming.{same_count, elsewhere}
use Rattle.parallel_run.specs.declared.peers.Peer.{Peer}
use Rattle.parallel_run.specs.declared.process.Process.{Process}
use Rattle.parallel_run.specs.declared.connections.Connections.{Connections}
use Rattle.parallel_run.specs.Peers.{AreJoined, AreLines, AreOthers, numbers_of}
use Rattle.parallel_run.specs.Dealt.{all_begun}
use Rattle.parallel_run.specs.Processes.{IsReady, begun_entry}
use Rattle.parallel_run.specs.Windows.{Begins}
use Rattle.parallel_run.proofs.Dealing.{begun_more}
use Rattle.parallel_run.proofs.Joining.{rings_of, joined_there}
use Rattle.parallel_run.proofs.JoiningPlaces.{all_with_one}
use Rattle.parallel_run.proofs.PeersOpening.{begins_first, one_less}
use Rattle.parallel_run.proofs.WorkerRounds.{gathers_none}
use Rattle.parallel_run.proofs.opening.processes_of.Goals as goal

pub loop-part-init : goal.loop-part-init
loop-part-init g c =
    let parts = c.args.parts.items in
    let peers = c.in_ok-peers.peers.items in
    let are = subst (λ n. AreJoined n (map rings_of peers)) c.requires.event_counts c.in_ok-peers.ensures in
    record {
      left = c.into_iter-part-iterator.ensures.into_iter_gives.0;
      count = ap length c.new-processes.ensures.items;
      takers = ap length c.new-takers.ensures.items;
      ends = c.requires.ends ∙ ap length (sym c.into_iter-part-iterator.ensures.into_iter_gives.0);
      rings = sym (length-map peers rings_of) ∙ are.counted;
      others = λ i own low here. joined_there (length parts) i peers own are here;
      numbers = ap (λ l. map begun_entry l) c.new-processes.ensures.items ∙ ap (λ l. all_begun (length l)) (sym c.new-processes.ensures.items);
      processes = λ basis is. subst (AllByRecursion (IsReady g.Q.EventQueue.set basis)) (sym c.new-processes.ensures.items) tt;
    }

pub loop-part-preserved : goal.loop-part-preserved
loop-part-preserved g c =
    let yielded = c.loop-part.yielded in
    let part = c.in-Some.part in
    let rest = c.next.new.self.rest.items in
    let peers = c.loop-part.peers.items in
    let number = c.len-number.result in
    let so_far = c.loop-part.invariant in
    let all = ap (λ l. yielded ++ l) (sym c.in-Some.ensures.steps.0) ∙ so_far.left in
    let more = length-append yielded (part ∷ []) in
    let count = ap length all in
    let whole = length-append yielded (part ∷ rest) in
    let is_next : number ≡ length yielded = omega (arith, c.len-number.ensures, so_far.count) in
    let below : number < length peers = omega (arith, so_far.rings, count, whole) in
    let own = c.replace-own.result in
    let there = slice_get_read peers (length peers) number c.index_mut.result.now refl below c.index_mut.ensures.value in
    let others =
    subst (λ n. AreOthers (length c.args.parts.items) n (numbers_of own.items)) is_next
    (subst (λ (v : Vec (Peer g.row.K.Denot) Global). AreOthers (length c.args.parts.items) number (numbers_of v.items)) (sym c.replace-own.ensures.value) (so_far.others number c.index_mut.result.now (omega arith) there)) in
    let lines : Connections g.row.K.Denot g.K.OfRun = record { number = number; peers = own; lots = c.in-Some-pop.field-0.sender } in
    let state = box_value c.in_ok-state.state in
    let made = c.in_ok-state.ensures in
    let process : Process g.row.K.Denot g.row.Q.Denot g.K.OfRun = record { state = c.in_ok-state.state; round = 0; first = c.same_moment.result } in
    let longer : suc (length c.loop-part.processes.items) ≡ length c.push.new.self.items = omega (arith, c.in_ok-push.ensures.len) in
    record {
      left = append_assoc yielded (part ∷ []) rest ∙ all;
      count = omega (arith, c.in_ok-push.ensures.len, more, so_far.count);
      takers = omega (arith, c.in_ok-push-2.ensures.len, more, so_far.takers);
      ends = one_less _ _ _ _ _ _ c.in-Some-pop.ensures.items c.in-Some.ensures.steps.0 so_far.ends;
      rings = same_count peers number c.replace-own.new.dest ∙ so_far.rings;
      others = λ i peers low here. so_far.others i peers (omega (arith, more)) (sym (elsewhere c.loop-part.peers.items number i c.replace-own.new.dest (λ same. omega (arith, more))) ∙ here);
      numbers =
          begun_more c.loop-part.processes.items c.push.new.self.items process (length c.loop-part.processes.items) c.in_ok-push.ensures.items refl (ap (λ (l : Connections g.row.K.Denot g.K.OfRun). l.number) made.lines ∙ omega (arith, is_next, so_far.count)) so_far.numbers
          ∙ ap all_begun longer;
      processes = λ basis is.
          let given = c.requires.run basis is in
          let begun = begins_first g.Q.EventQueue.set basis c.args.parts.items yielded rest part c.same_moment.result lines given.1 (subst (IsFirstMoment (opening basis.setup)) (sym c.same_moment.ensures) given.2) all is_next others in
          all_with_one (IsReady g.Q.EventQueue.set basis) c.loop-part.processes.items c.push.new.self.items process c.in_ok-push.ensures.items (so_far.processes basis is)
          (record {
            begins =
                subst (λ (l : Connections g.row.K.Denot g.K.OfRun). Begins g.Q.EventQueue.set basis l.number 0 c.same_moment.result state.part) (sym made.lines)
                (subst (λ (p : Part _). Begins g.Q.EventQueue.set basis number 0 c.same_moment.result p) (sym made.part) begun.0);
            gathered = gathers_none basis given.0 state.lines.number state.gathered made.since made.none;
            lines = subst (AreLines basis) (sym made.lines) begun.1;
          });
    }

-- there is an end of a relay for each part
pub unreachable-requires : goal.unreachable-requires
unreachable-requires g c =
    let left = c.loop-part.invariant.ends ∙ ap length c.in-Some.ensures.steps.0 in
    let none = c.in_default.ensures.cases.0 in
    omega (arith, left, none)
