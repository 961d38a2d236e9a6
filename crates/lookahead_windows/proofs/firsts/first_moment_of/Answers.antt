use Rattle.std.proofs.Common.{Some, None}
use Rattle.lookahead_windows.proofs.Least.{below_least}
use Rattle.lookahead_windows.proofs.firsts.first_moment_of.Goals as goal

pub returns-in-Some : goal.returns-in-Some
returns-in-Some g c = λ t. below_least _ (Some c.in-Some.key) c.in-Some.ensures.least tt t

pub returns-in-None : goal.returns-in-None
returns-in-None g c = λ t. below_least _ None tt c.in-None.ensures.none t
