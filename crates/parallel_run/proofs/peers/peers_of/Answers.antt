use Rattle.std.proofs.Common.{map, ◌∙◌, sym, subst, arith}
use Rattle.std.proofs.lemmas.List.{length-map}
use Rattle.parallel_run.specs.Peers.{AreJoined}
use Rattle.parallel_run.proofs.Joining.{rings_of, all_joined}
use Rattle.parallel_run.proofs.peers.peers_of.Goals as goal

pub joined_peers-requires-clause-more : goal.joined_peers-requires-clause-more
joined_peers-requires-clause-more g c =
    let many = sym (length-map c.loop-event_count.all.items rings_of) ∙ c.loop-event_count.invariant.joined.counted in
    omega arith

pub joined_peers-requires-clause-joined : goal.joined_peers-requires-clause-joined
joined_peers-requires-clause-joined g c =
    let many = sym (length-map c.loop-event_count.all.items rings_of) ∙ c.loop-event_count.invariant.joined.counted in
    subst (λ n. AreJoined n (map rings_of c.loop-event_count.all.items)) (sym many) c.loop-event_count.invariant.joined

pub loop-event_count-preserved : goal.loop-event_count-preserved
loop-event_count-preserved g c = record {
  joined = all_joined c.loop-event_count.event_count-index c.loop-event_count.all.items c.joined_peers.new.before.items c.push.new.self.items c.in_ok-peers.peers c.loop-event_count.invariant.joined
      c.in_ok-peers.ensures.count c.in_ok-push.ensures.items c.in_ok-peers.ensures.before c.in_ok-peers.ensures.own;
}
