use Rattle.relay.proofs.Keeps.{gets}
use Rattle.relay.proofs.relay.Relay.receive.Goals as goal

pub recv_as-requires-clause-rule : goal.recv_as-requires-clause-rule
recv_as-requires-clause-rule g c = (gets g.S.BatchRule.stands_for g.S.BatchRule.is_last g.S.BatchRule.belongs _ _ c.requires.may, λ _ _ _ _. tt)
