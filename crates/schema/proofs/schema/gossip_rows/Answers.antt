use Rattle.std.proofs.Common.{rules}
use Rattle.schema.specs.Schema.{key_rules_of}
use Rattle.schema.proofs.schema.gossip_rows.Goals as goal

pub returns-in-One : goal.returns-in-One
unfolding key_rules_of
returns-in-One c = search rules

pub returns-in-Four : goal.returns-in-Four
unfolding key_rules_of
returns-in-Four c = search rules
