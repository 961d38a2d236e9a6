use Rattle.std.proofs.Common.{arith}
use Rattle.member.proofs.member.Member.set_next_round.Goals as goal

pub next_in_step-next-requires-clause-some : goal.next_in_step-next-requires-clause-some
next_in_step-next-requires-clause-some c =
    let some = c.requires.sound.interval.0 in omega (arith, some)

pub next_in_step-next-requires-clause-short : goal.next_in_step-next-requires-clause-short
next_in_step-next-requires-clause-short c =
    c.requires.sound.interval.1
