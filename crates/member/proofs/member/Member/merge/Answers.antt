use Rattle.std.proofs.Common.{refl}
use Rattle.member.specs.declared.announce.Announce.TheVariants.{Aloud}
use Rattle.member.specs.Apply.{all_applied}
use Rattle.member.specs.Step.{merged, merged_claim}
use Rattle.member.proofs.Lists.{turned_next, turned_overflow}
use Rattle.member.proofs.CounterOverflow.{refused}
use Rattle.member.proofs.member.Member.merge.Goals as goal

pub loop-entry-init : goal.loop-entry-init
unfolding all_applied
loop-entry-init c = record { effect = refl; known = c.requires.known }

pub loop-entry-preserved : goal.loop-entry-preserved
loop-entry-preserved c = record {
  effect =
      turned_next c.args.here.now.scenario.now Aloud c.args.here.now.key (merged_claim c.args.here.now.key.to) c.args.entries.now c.loop-entry.entry-index c.entry-item.result
      _ _ _ c.loop-entry-test.true c.entry-item.is c.loop-entry.invariant.effect c.in_ok-apply_merged.ensures.ok;
  known = c.in_ok-apply_merged.ensures.kept;
}

pub returns-in_err-apply_merged : goal.returns-in_err-apply_merged
unfolding merged
returns-in_err-apply_merged c =
    refused _ _ c.from_residual.ensures.1 (λ h. turned_overflow c.args.here.now.scenario.now Aloud c.args.here.now.key (merged_claim c.args.here.now.key.to) c.args.entries.now c.loop-entry.entry-index c.entry-item.result
    _ _ c.loop-entry-test.true c.entry-item.is c.loop-entry.invariant.effect (c.in_err-apply_merged.ensures.overflow h))
