use Rattle.std.proofs.Common.{◌≡◌, subst, arith}
use Rattle.parallel_run.specs.Returned.{TakesOut}
use Rattle.parallel_run.proofs.Dealing.{taken_out}
use Rattle.parallel_run.proofs.relay_ends.sender_of.Goals as goal

pub returns-then-index-number : goal.returns-then-index-number
returns-then-index-number g c =
    let out =
    taken_out c.loop-place.senders.items c.swap_remove.new.self.items c.loop-place.place c.args.number c.index.result.now c.swap_remove.result (omega arith) c.index.ensures (omega (arith, c.if-index-number.true)) c.swap_remove.ensures.value
    c.swap_remove.ensures.items in
    (out.0, subst (λ l. TakesOut l c.swap_remove.new.self.items c.swap_remove.result) c.loop-place.invariant.same out.1)
