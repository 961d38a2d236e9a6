use Rattle.std.proofs.Common.{arith}
use Rattle.membership.proofs.Few.{live_count-le, live_count-positive}
use Rattle.member.proofs.Members.{few_members}
use Rattle.member.proofs.member.Member.try_failed.Goals as goal

pub overflow_cast-live_count : goal.overflow_cast-live_count
overflow_cast-live_count c =
    let few = live_count-le _ _ c.args.self.now.table c.args.here.now.setting.receiver c.requires.known.others in
    omega (arith, few, few_members _ c.args.here.now.setting.sound, c.live_count.ensures)

pub below-chance-requires : goal.below-chance-requires
below-chance-requires c = omega (arith, live_count-positive c.args.self.now.table, c.live_count.ensures)
