use Rattle.relay.proofs.Keeps.{begins}
use Rattle.relay.proofs.relay.Relay.new.Goals as goal

pub bounded_with-requires-clause-rule : goal.bounded_with-requires-clause-rule
bounded_with-requires-clause-rule g c = begins _ _ _
