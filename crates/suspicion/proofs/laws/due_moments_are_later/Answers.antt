use Rattle.std.proofs.Common.{arith}
use Rattle.suspicion.proofs.Timeouts.{min-le-timeout}
use Rattle.suspicion.proofs.laws.due_moments_are_later.Goals as goal

pub returns-clause-started : goal.returns-clause-started
returns-clause-started c terms n now sound = let least = min-le-timeout terms n 0 sound in omega (arith, least)
