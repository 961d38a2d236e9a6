use Rattle.member_laws.proofs.Silence.{down_step, down_for_good, waiting_step}
use Rattle.member_laws.proofs.laws.a_silent_member_keeps_silent.Goals as goal

pub returns-clause-down : goal.returns-clause-down
returns-clause-down c = down_step

pub returns-clause-waiting : goal.returns-clause-waiting
returns-clause-waiting c = waiting_step

pub returns-clause-down_for_good : goal.returns-clause-down_for_good
returns-clause-down_for_good c = down_for_good
