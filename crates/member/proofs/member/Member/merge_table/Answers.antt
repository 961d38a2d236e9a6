use Rattle.std.proofs.Common.{refl}
use Rattle.member.specs.Merges.{table_merged}
use Rattle.member.proofs.CounterOverflow.{refused}
use Rattle.member.proofs.Tables.{merged_next, merged_overflow}
use Rattle.member.proofs.member.Member.merge_table.Goals as goal

pub loop-entry-init : goal.loop-entry-init
unfolding table_merged
loop-entry-init c = record { effect = refl; known = c.requires.known }

pub loop-entry-preserved : goal.loop-entry-preserved
loop-entry-preserved c = record {
  effect =
      merged_next c.args.here.now.scenario.now c.args.here.now.key c.args.entries.now c.loop-entry.entry-index c.entry-item.result
      _ _ _ c.loop-entry-test.true c.entry-item.is c.loop-entry.invariant.effect c.in_ok-merge_entry.ensures.ok;
  known = c.in_ok-merge_entry.ensures.kept;
}

pub returns-in_err-merge_entry : goal.returns-in_err-merge_entry
returns-in_err-merge_entry c =
    refused _ _ c.from_residual.ensures.1 (λ h. merged_overflow c.args.here.now.scenario.now c.args.here.now.key c.args.entries.now c.loop-entry.entry-index c.entry-item.result
    _ _ c.loop-entry-test.true c.entry-item.is c.loop-entry.invariant.effect (c.in_err-merge_entry.ensures.overflow h))
