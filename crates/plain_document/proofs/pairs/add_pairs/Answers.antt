use Rattle.std.proofs.Common.{string_bytes}
use Rattle.toml.specs.View.{view}
use Rattle.plain_document.proofs.Plain.{next_key}
use Rattle.plain_document.proofs.pairs.add_pairs.Goals as goal

pub loop-key-preserved : goal.loop-key-preserved
loop-key-preserved c =
    next_key string_bytes c.args.tick c.args.section.now c.args.way (view c.args.table.now) c.args.keys.now c.loop-key.key-index c.key-item.result _ _ _ _
    c.loop-key-test.true c.key-item.is c.as_str.ensures.value c.loop-key.invariant c.in_ok-add_pair.ensures
