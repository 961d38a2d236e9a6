use Rattle.std.proofs.Common.{ap, ◌∙◌}
use Rattle.lives.specs.Regards.{regards_of}
use Rattle.lives.proofs.Columns.{one_more}
use Rattle.lives.proofs.regards.reach.Goals as goal

pub loop-member-preserved : goal.loop-member-preserved
loop-member-preserved c = ap regards_of c.in_ok-push.ensures.items ∙ one_more c.loop-member.column.items ∙ c.loop-member.invariant
