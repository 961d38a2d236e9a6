use Rattle.member_laws.proofs.Reached.{consistent_reached, pending_among}
use Rattle.member_laws.proofs.laws.a_run_keeps_states_consistent.Goals as goal

pub returns-clause-states : goal.returns-clause-states
returns-clause-states c = λ s w m t sound. consistent_reached s sound w m t

pub returns-clause-events : goal.returns-clause-events
returns-clause-events c = λ s w k content sound. pending_among s sound w k content
