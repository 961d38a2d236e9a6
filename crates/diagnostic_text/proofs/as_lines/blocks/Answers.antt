use Rattle.diagnostic_text.proofs.Blocks.{blocks_more}
use Rattle.diagnostic_text.proofs.as_lines.blocks.Goals as goal

pub loop-diagnostic-preserved : goal.loop-diagnostic-preserved
loop-diagnostic-preserved c =
    blocks_more c.args.shown.now c.loop-diagnostic.diagnostic-index _ _ _ _ c.loop-diagnostic-test.true c.loop-diagnostic.invariant c.in_ok-push_block.ensures
