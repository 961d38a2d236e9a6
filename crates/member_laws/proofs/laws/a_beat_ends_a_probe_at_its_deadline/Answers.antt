use Rattle.member_laws.proofs.Deadlines.{spared, ended_step, spared_in_step, ended_by_single, idle_step}
use Rattle.member_laws.proofs.laws.a_beat_ends_a_probe_at_its_deadline.Goals as goal

pub returns-clause-spared : goal.returns-clause-spared
returns-clause-spared c = spared

pub returns-clause-ended : goal.returns-clause-ended
returns-clause-ended c = ended_step

pub returns-clause-idle : goal.returns-clause-idle
returns-clause-idle c = idle_step

pub returns-clause-in_step : goal.returns-clause-in_step
returns-clause-in_step c = spared_in_step

pub returns-clause-once : goal.returns-clause-once
returns-clause-once c = ended_by_single

pub returns-clause-idle_by_older_rules : goal.returns-clause-idle_by_older_rules
returns-clause-idle_by_older_rules c = λ s k seq t older other. idle_step s k seq t other (λ rules. absurd (older rules))
