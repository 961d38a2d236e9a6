use Rattle.std.proofs.Common.{sym, ◌∙◌, ap}
use Rattle.std.specs.FinSet as set
use Rattle.lifeguard.proofs.RelaySets.{contains_relay}
use Rattle.lifeguard.proofs.relays.Relays.has.Goals as goal

pub returns : goal.returns
returns c =
    c.contains.ensures
    ∙ sym (contains_relay c.self.inside.pairs.keys (c.args.initiator, c.args.seq))
    ∙ ap (λ s. set.contains s (c.args.initiator, c.args.seq)) c.self.view_is
