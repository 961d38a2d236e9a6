use Rattle.std.proofs.Common.{refl}
use Rattle.member_laws.proofs.Healths.{waits_step}
use Rattle.member_laws.proofs.laws.a_waiting_member_is_as_opened.Goals as goal

pub returns-clause-opening : goal.returns-clause-opening
returns-clause-opening c = λ s m waits. refl

pub returns-clause-step : goal.returns-clause-step
returns-clause-step c = waits_step
