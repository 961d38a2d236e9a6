use Rattle.std.proofs.Common.{arith}
use Rattle.scenario.specs.Setup.{member_count}
use Rattle.partitioning.proofs.Turning.{if_not, one_more, one_other}
use Rattle.partitioning.proofs.small_runs.is_unasked.Goals as goal

pub returns-then-part-member : goal.returns-then-part-member
returns-then-part-member c =
    if_not _
    (one_other c.args.workers (member_count c.args.scenario.now) c.loop-member.member c.part.result c.args.division.now
    (omega (arith, c.loop-member-test.true, c.members-member-end.ensures.count)) c.part.ensures.value (λ is. absurd (omega (arith, is, c.if-part-member.true))))

pub loop-member-preserved : goal.loop-member-preserved
loop-member-preserved c = record {
  turns =
      one_more c.args.workers c.loop-member.member c.part.result c.args.division.now.part_of c.part.ensures.value (omega (arith, c.if-part-member.false)) c.loop-member.invariant.turns;
}
