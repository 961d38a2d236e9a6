use Rattle.std.proofs.Common.{length, ap, ◌∙◌, sym, arith}
use Rattle.std.proofs.lemmas.Bool.{eqb-true, eq-eqb}
use Rattle.std.proofs.lemmas.List.{nil_from_length}
use Rattle.broadcast_queue.specs.Broadcasts.{Queue}
use Rattle.broadcast_queue.specs.Contents.{queue_of}
use Rattle.broadcast_queue.proofs.BroadcastQueue.is_empty.Goals as goal

pub returns : goal.returns
unfolding queue_of
returns c =
    let items = c.self.inside.contents.items.items in
    let same = ap (λ (q : Queue). q.items) c.self.view_is in (
      λ yes. sym same ∙ nil_from_length items (let h = eqb-true _ _ (sym c.is_empty.ensures ∙ yes) in omega (arith, h)),
      λ none. c.is_empty.ensures ∙ eq-eqb _ _ (let h = ap length (same ∙ none) in omega (arith, h)),
    )
