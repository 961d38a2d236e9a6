use Rattle.std.proofs.Common.{sym, ◌∙◌, ap}
use Rattle.std.specs.FinSet as set
use Rattle.lifeguard.proofs.RelaySets.{one_more, contains_relay}
use Rattle.lifeguard.proofs.relays.Relays.add.Goals as goal
use Rattle.lifeguard.proofs.relays.Relays.add.Goals.{in-Ok, in-Err}

pub returns-clause-ok : goal.returns-clause-ok
returns-clause-ok c =
    elim c.match-insert.branch [
      | in-Ok w ↦ rw w.result-is
          (one_more c.self.inside.pairs.keys _ _ w.in-Ok.ensures.updates.0
          ∙ ap (λ s. set.insert s (c.args.initiator, c.args.seq)) c.self.view_is)
      | in-Err w ↦ rw w.result-is tt
    ]

pub returns-clause-err_only_if_new : goal.returns-clause-err_only_if_new
returns-clause-err_only_if_new c =
    elim c.match-insert.branch [
      | in-Ok w ↦ rw w.result-is tt
      | in-Err w ↦ rw w.result-is
          (ap (λ s. set.contains s (c.args.initiator, c.args.seq)) (sym c.self.view_is)
          ∙ contains_relay c.self.inside.pairs.keys _ ∙ w.in-Err.ensures.absent)
    ]
