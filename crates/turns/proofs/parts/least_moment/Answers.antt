use Rattle.std.proofs.Common.{◌+◌, ◌++◌, ◌∷◌, [], take, ap, ◌∙◌, sym, subst, arith}
use Rattle.std.proofs.lemmas.List.{take_more}
use Rattle.turns.specs.Parts.{IsLeastMoment}
use Rattle.turns.proofs.Bounding.{least_so_far}
use Rattle.turns.proofs.parts.least_moment.Goals as goal

pub loop-part-preserved : goal.loop-part-preserved
loop-part-preserved g c =
    let so_far = least_so_far g.Q.EventQueue.set (take c.loop-part.part-index c.args.parts.now) (take (c.loop-part.part-index + 1) c.args.parts.now) c.part-item.result c.loop-part.least c.least.result
    (take_more c.args.parts.now c.loop-part.part-index c.part-item.result (omega arith) ∙ ap (λ p. take c.loop-part.part-index c.args.parts.now ++ p ∷ []) (sym c.part-item.is)) c.loop-part.invariant.least c.least.ensures.least c.least.ensures.none in
    record { least = subst (IsLeastMoment g.Q.EventQueue.set (take (c.loop-part.part-index + 1) c.args.parts.now)) (sym c.lesser_moment-least.ensures) so_far }
