-- what is asked for is the shard, where one is named, and else the whole
use Rattle.std.proofs.Common.{string_bytes}
use Rattle.sweep_command.proofs.Tables.{shard_begun, shard_made, whole_begun, whole_made}
use Rattle.sweep_command.proofs.sweeping.write_asked.Goals as goal

pub write_shard-requires-clause-few : goal.write_shard-requires-clause-few
write_shard-requires-clause-few g c _ _ = c.requires.few c.in-Some.shard c.in-Some.is

pub returns-in-Some-clause-whole : goal.returns-in-Some-clause-whole
returns-in-Some-clause-whole g c =
    shard_made string_bytes _ _ _ _ _ _ _ c.write_shard.result _ _ c.in-Some.is c.write_shard.ensures.whole c.write_shard.ensures.silent

pub returns-in-Some-clause-part : goal.returns-in-Some-clause-part
returns-in-Some-clause-part g c = shard_begun string_bytes _ _ _ _ _ _ _ c.write_shard.result _ _ c.in-Some.is c.write_shard.ensures.part

pub returns-in-None-clause-whole : goal.returns-in-None-clause-whole
returns-in-None-clause-whole g c = whole_made string_bytes _ _ _ _ _ _ _ c.write_whole.result _ c.in-None.is c.write_whole.ensures.whole

pub returns-in-None-clause-part : goal.returns-in-None-clause-part
returns-in-None-clause-part g c = whole_begun string_bytes _ _ _ _ _ _ _ c.write_whole.result _ c.in-None.is c.write_whole.ensures.part
