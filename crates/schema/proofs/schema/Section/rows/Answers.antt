use Rattle.std.proofs.Common.{rules}
use Rattle.schema.specs.Schema.{key_rules_of}
use Rattle.schema.proofs.schema.Section.rows.Goals as goal

pub returns-in-Suspicion : goal.returns-in-Suspicion
unfolding key_rules_of
returns-in-Suspicion c = search rules

pub returns-in-Lifeguard : goal.returns-in-Lifeguard
unfolding key_rules_of
returns-in-Lifeguard c = search rules

pub returns-in-Link : goal.returns-in-Link
unfolding key_rules_of
returns-in-Link c = search rules

pub returns-in-Path : goal.returns-in-Path
unfolding key_rules_of
returns-in-Path c = search rules

pub returns-in-Slow : goal.returns-in-Slow
unfolding key_rules_of
returns-in-Slow c = search rules

pub returns-in-Departure : goal.returns-in-Departure
unfolding key_rules_of
returns-in-Departure c = search rules

pub returns-in-Cut : goal.returns-in-Cut
unfolding key_rules_of
returns-in-Cut c = search rules

pub returns-in-Pause : goal.returns-in-Pause
unfolding key_rules_of
returns-in-Pause c = search rules

pub returns-in-Restart : goal.returns-in-Restart
unfolding key_rules_of
returns-in-Restart c = search rules

pub returns-in-Serf : goal.returns-in-Serf
unfolding key_rules_of
returns-in-Serf c = search rules
