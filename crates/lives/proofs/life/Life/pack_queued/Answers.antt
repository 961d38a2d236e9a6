use Rattle.std.proofs.Common.{List, map, ap, sym, ◌∙◌}
use Rattle.broadcast_queue.specs.declared.items.Item.{Item}
use Rattle.broadcast_queue.specs.declared.items.Measure.TheVariants.{Bytes}
use Rattle.lives.proofs.Held.{as_queued, none_queued}
use Rattle.lives.proofs.life.Life.pack_queued.Goals as goal

pub returns-in-None-clause-picked : goal.returns-in-None-clause-picked
returns-in-None-clause-picked c =
    c.new.ensures.items ∙ sym (ap (λ (items : List Item). map (λ (it : Item). it.update) items) (none_queued c.args.self.now c.in-None.is Bytes c.args.room))

pub returns-in-None-clause-left : goal.returns-in-None-clause-left
returns-in-None-clause-left c = as_queued c.args.self.now c.in-None.is Bytes c.args.room c.args.limit
