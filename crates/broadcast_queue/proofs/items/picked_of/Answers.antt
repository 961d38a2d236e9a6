use Rattle.std.proofs.Common.{◌++◌, List, drop, sym, ap, ◌∙◌, append-nil}
use Rattle.broadcast_queue.specs.declared.items.Item.{Item}
use Rattle.broadcast_queue.specs.Items.{those_that_fit}
use Rattle.broadcast_queue.proofs.Picks.{none_fits}
use Rattle.broadcast_queue.proofs.items.picked_of.Goals as goal

pub returns-then-room-eq0 : goal.returns-then-room-eq0
returns-then-room-eq0 c =
    let rest = drop c.loop-item.item-index c.args.items.now in
    let picked = c.loop-item.picked.items in
    sym (append-nil picked)
    ∙ ap (λ (l : List Item). picked ++ l) (sym (none_fits c.args.measure rest) ∙ ap (λ n. those_that_fit c.args.measure n rest) (sym c.if-room-eq0.true))
    ∙ c.loop-item.invariant
