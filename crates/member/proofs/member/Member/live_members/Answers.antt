use Rattle.std.proofs.Common.{arith}
use Rattle.membership.proofs.Few.{size-le, size-positive}
use Rattle.member.proofs.Members.{few_members}
use Rattle.member.proofs.member.Member.live_members.Goals as goal

pub overflow_cast-result : goal.overflow_cast-result
overflow_cast-result c =
    let few = size-le c.profile.result _ _ c.args.self.now.table c.args.here.now.setting.receiver c.requires.others in
    omega (arith, few, few_members _ c.args.here.now.setting.sound, c.size_of.ensures)

pub returns-clause-some : goal.returns-clause-some
returns-clause-some c = omega (arith, size-positive c.profile.result c.args.self.now.table, c.size_of.ensures)

pub returns-clause-live_within : goal.returns-clause-live_within
returns-clause-live_within c =
    let few = size-le c.profile.result _ _ c.args.self.now.table c.args.here.now.setting.receiver c.requires.others in
    omega (arith, few, few_members _ c.args.here.now.setting.sound, c.size_of.ensures)
