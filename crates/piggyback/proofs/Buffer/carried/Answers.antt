use Rattle.std.proofs.Common.{ap, ◌∙◌}
use Rattle.piggyback.specs.Picked.{HeldUpdates, left_after}
use Rattle.piggyback.proofs.Holding.{held-sent}
use Rattle.piggyback.proofs.Buffer.carried.Goals as goal

pub invariant_of-self : goal.invariant_of-self
invariant_of-self c = c.count_sent.ensures.ordered

pub returns : goal.returns
returns c =
    held-sent c.args.updates.now c.args.limit c.self.inside.entries.items _ c.count_sent.ensures
    ∙ ap (λ (held : HeldUpdates). left_after held c.args.updates.now c.args.limit) c.self.view_is
