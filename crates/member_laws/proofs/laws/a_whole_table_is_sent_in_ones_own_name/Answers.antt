use Rattle.member_laws.proofs.Whole.{accused_by_sender, subjects_rise, state_accused, state_rises}
use Rattle.member_laws.proofs.laws.a_whole_table_is_sent_in_ones_own_name.Goals as goal

pub returns-clause-accuser : goal.returns-clause-accuser
returns-clause-accuser c = accused_by_sender

pub returns-clause-order : goal.returns-clause-order
returns-clause-order c = subjects_rise

pub returns-clause-state_accuser : goal.returns-clause-state_accuser
returns-clause-state_accuser c = state_accused

pub returns-clause-state_order : goal.returns-clause-state_order
returns-clause-state_order c = state_rises
