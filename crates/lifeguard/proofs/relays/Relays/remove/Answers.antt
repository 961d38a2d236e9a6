use Rattle.std.proofs.Common.{sym, ◌∙◌, ap}
use Rattle.std.specs.FinSet as set
use Rattle.lifeguard.proofs.RelaySets.{one_less, contains_relay}
use Rattle.lifeguard.proofs.relays.Relays.remove.Goals as goal

pub returns-clause-was_there : goal.returns-clause-was_there
returns-clause-was_there c =
    c.remove.ensures.test
    ∙ sym (contains_relay c.self.inside.pairs.keys (c.args.initiator, c.args.seq))
    ∙ ap (λ s. set.contains s (c.args.initiator, c.args.seq)) c.self.view_is

pub returns-clause-removed : goal.returns-clause-removed
returns-clause-removed c =
    one_less c.self.inside.pairs.keys _ _ c.remove.ensures.updates.0
    ∙ ap (λ s. set.remove s (c.args.initiator, c.args.seq)) c.self.view_is
