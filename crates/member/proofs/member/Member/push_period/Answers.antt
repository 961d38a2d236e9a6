use Rattle.std.proofs.Common.{◌+◌, ◌^◌, arith}
use Rattle.std.proofs.lemmas.Nat.{mul-le}
use Rattle.member.proofs.Fair.{long_period}
use Rattle.member.proofs.member.Member.push_period.Goals as goal

pub overflow_mul-result : goal.overflow_mul-result
overflow_mul-result c = let few = c.doublings_to.ensures.few in omega (arith, mul-le c.args.push (1 + c.doublings_to.result) (2 ^ 24) 10 c.requires.short (omega (arith, few)))

pub returns-clause-some : goal.returns-clause-some
returns-clause-some c = λ some. long_period c.args.push c.doublings_to.result some

pub returns-clause-soon : goal.returns-clause-soon
returns-clause-soon c = let few = c.doublings_to.ensures.few in omega (arith, mul-le c.args.push (1 + c.doublings_to.result) (2 ^ 24) 10 c.requires.short (omega (arith, few)))
