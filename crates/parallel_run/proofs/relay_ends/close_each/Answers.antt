use Rattle.std.proofs.Common.{◌≡◌, List, arith, length, map, sym, subst, ap, ◌∙◌}
use Rattle.std.specs.List.{slice_get}
use Rattle.std.proofs.lemmas.List.{nil_from_length}
use Rattle.std.proofs.lemmas.Option.{none-some}
use Rattle.parallel_run.specs.Relaying.{RowRelay}
use Rattle.board.specs.Deal.{SameBag}
use Rattle.parallel_run.specs.Dealt.{all_ended}
use Rattle.parallel_run.specs.Relays.{IsClosed}
use Rattle.parallel_run.specs.Returned.{ended_entry}
use Rattle.parallel_run.proofs.Dealing.{ended_more, all_ended_back}
use Rattle.parallel_run.proofs.Relaying.{closed_more}
use Rattle.parallel_run.proofs.relay_ends.close_each.Goals as goal

pub loop-number-init : goal.loop-number-init
loop-number-init g c = record {
  count = ap length c.new-closed.ensures.items;
  weights = λ weight. omega arith;
  each = λ i one here. absurd (none-some one (ap (λ l. slice_get l i) (sym c.new-closed.ensures.items) ∙ here));
}

pub loop-number-preserved : goal.loop-number-preserved
loop-number-preserved g c =
    let so_far = c.loop-number.invariant in
    let one = c.in_ok-relay.relay in
    record {
      count = omega (arith, c.in-Ok.ensures.len, so_far.count);
      weights = λ weight.
          ended_more weight c.args.senders.items c.loop-number.senders.items c.sender_of.new.senders.items c.in-Some-sender_of.sender c.loop-number.number c.in-Some-sender_of.ensures.0 c.in-Some-sender_of.ensures.1 (so_far.weights weight);
      each =
          closed_more c.args.relays.now c.loop-number.closed.items c.push.new.self.items one so_far.each
          (subst (λ number. IsClosed c.args.relays.now number one) (sym so_far.count) (subst (λ (relays : List RowRelay). IsClosed relays c.loop-number.number one) c.requires c.in_ok-relay.ensures.closed))
          c.in-Ok.ensures.items;
    }

pub returns-clause-relayed : goal.returns-clause-relayed
returns-clause-relayed g c = record { count = omega (arith, c.loop-number.invariant.count); each = c.loop-number.invariant.each }

pub returns-clause-back : goal.returns-clause-back
returns-clause-back g c =
    let all : c.loop-number.number ≡ length c.args.relays.now = omega arith in
    subst (λ n. SameBag (map ended_entry c.args.senders.items) (all_ended n)) all (all_ended_back c.args.senders.items c.loop-number.senders.items c.loop-number.number (nil_from_length _ (omega arith)) c.loop-number.invariant.weights)
