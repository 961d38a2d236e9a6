use Rattle.shard_merge.proofs.Again.{put_again}
use Rattle.shard_merge.proofs.laws.the_table_alone_is_put_again.Goals as goal

pub returns : goal.returns
returns c texts again table put sweep read columns columns_too settings others joins alone later = put_again texts again table put sweep read columns columns_too settings others joins alone later
