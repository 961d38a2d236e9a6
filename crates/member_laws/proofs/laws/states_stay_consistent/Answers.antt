use Rattle.member_laws.proofs.Consistency.{opening_consistent, step_consistent}
use Rattle.member_laws.proofs.Reached.{step_among}
use Rattle.member_laws.proofs.laws.states_stay_consistent.Goals as goal

pub returns-clause-opening : goal.returns-clause-opening
returns-clause-opening c = opening_consistent

pub returns-clause-step : goal.returns-clause-step
returns-clause-step c = step_consistent

pub returns-clause-events : goal.returns-clause-events
returns-clause-events c = step_among
