use Rattle.member_laws.proofs.Moments.{all_soon, pending_soon, timely_reached}
use Rattle.member_laws.proofs.laws.a_run_keeps_moments_in_range.Goals as goal

pub returns-clause-step : goal.returns-clause-step
returns-clause-step c = all_soon

pub returns-clause-run : goal.returns-clause-run
returns-clause-run c = λ s w k content sound. pending_soon s sound w k content

pub returns-clause-states : goal.returns-clause-states
returns-clause-states c = λ s w m t sound. timely_reached s sound w m t
