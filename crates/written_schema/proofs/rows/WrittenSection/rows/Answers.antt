use Rattle.std.proofs.Common.{rules}
use Rattle.schema.specs.Schema.{key_rules_of, spelling_of}
use Rattle.written_schema.specs.Rows.{rows_of}
use Rattle.written_schema.proofs.rows.WrittenSection.rows.Goals as goal

pub returns-in-Top : goal.returns-in-Top
unfolding rows_of key_rules_of spelling_of
returns-in-Top c = search rules

pub returns-in-Swim : goal.returns-in-Swim
unfolding rows_of key_rules_of spelling_of
returns-in-Swim c = search rules

pub returns-in-Suspicion : goal.returns-in-Suspicion
unfolding rows_of key_rules_of spelling_of
returns-in-Suspicion c = search rules

pub returns-in-Lifeguard : goal.returns-in-Lifeguard
unfolding rows_of key_rules_of spelling_of
returns-in-Lifeguard c = search rules

pub returns-in-Link : goal.returns-in-Link
unfolding rows_of key_rules_of spelling_of
returns-in-Link c = search rules

pub returns-in-Group : goal.returns-in-Group
unfolding rows_of key_rules_of spelling_of
returns-in-Group c = search rules

pub returns-in-Path : goal.returns-in-Path
unfolding rows_of key_rules_of spelling_of
returns-in-Path c = search rules

pub returns-in-Cut : goal.returns-in-Cut
unfolding rows_of key_rules_of spelling_of
returns-in-Cut c = search rules

pub returns-in-Gossip : goal.returns-in-Gossip
unfolding rows_of key_rules_of spelling_of
returns-in-Gossip c = search rules

pub returns-in-Stream : goal.returns-in-Stream
unfolding rows_of key_rules_of spelling_of
returns-in-Stream c = search rules

pub returns-in-Serf : goal.returns-in-Serf
unfolding rows_of key_rules_of spelling_of
returns-in-Serf c = search rules
