use Rattle.std.proofs.Common.{arith}
use Rattle.member.proofs.member.Member.beat_once.Goals as goal

pub next_in_step-next-requires-clause-some : goal.next_in_step-next-requires-clause-some
next_in_step-next-requires-clause-some c = let sound = c.args.here.now.setting.sound in omega (arith, c.period.ensures.value, sound.timeout.0, sound.timeout.1)
