use Rattle.std.proofs.Common.{true, List, map, ap, ◌∙◌}
use Rattle.broadcast_queue.specs.declared.items.Item.{Item}
use Rattle.broadcast_queue.specs.declared.items.Measure.TheVariants.{Items}
use Rattle.broadcast_queue.specs.Items.{those_that_fit}
use Rattle.broadcast_queue.specs.Broadcasts.{Queue, after_pick}
use Rattle.broadcast_queue.specs.Contents.{held, queue_of}
use Rattle.broadcast_queue.proofs.BroadcastQueue.pick.Goals as goal

pub returns-clause-picked : goal.returns-clause-picked
unfolding queue_of
returns-clause-picked c =
    c.in_ok-updates.ensures
    ∙ ap (λ (l : List Item). map (λ (it : Item). it.update) l)
    (c.deref-2.ensures.value ∙ c.in_ok-picked.ensures ∙ ap (λ (l : List Item). those_that_fit Items c.args.carry l) (c.deref.ensures.value ∙ ap (λ (q : Queue). q.items) c.self.view_is))

pub returns-clause-ok : goal.returns-clause-ok
unfolding queue_of
returns-clause-ok c =
    let contents = c.self.inside.contents in
    let these = ap (λ (l : List Item). those_that_fit Items c.args.carry l) (c.deref.ensures.value ∙ ap (λ (q : Queue). q.items) c.self.view_is) in
    c.in_ok-send.ensures.ok
    ∙ ap (λ (l : List Item). after_pick true l c.args.limit (held contents)) (c.deref-3.ensures.value ∙ c.in_ok-picked.ensures ∙ these)
    ∙ ap (λ (q : Queue). after_pick true (those_that_fit Items c.args.carry c.args.self.now.items) c.args.limit q) c.self.view_is
