use Rattle.std.proofs.Common.{ap, ◌∙◌, sym}
use Rattle.std.specs.Vec.{vec_len}
use Rattle.std.specs.Vec.Iter.{drain_items}
use Rattle.lookahead.specs.Between.{part_number}
use Rattle.lookahead_windows.proofs.Dealing.{all_drained, none_dealt}
use Rattle.lookahead_windows.proofs.outgoing.deal.Goals as goal

pub loop-event-init : goal.loop-event-init
loop-event-init c =
    let deal = c.args.division.now in
    let events = c.args.events.now in
    record {
      left = sym (all_drained events.items (vec_len events) events.ok.0) ∙ sym c.drain-event-items.ensures.rest ∙ ap drain_items (sym c.into_iter-event-iterator.ensures.into_iter_gives);
      count = c.requires.count;
      dealt = none_dealt (part_number deal) deal.parts (λ list. list.items) c.args.lists.now.items c.requires.count c.requires.empty;
    }
