use Rattle.suspicion.proofs.Timeouts.{min-le-timeout, timeout-le-max}
use Rattle.suspicion.proofs.laws.timeouts_stay_in_range.Goals as goal

pub returns-clause-least : goal.returns-clause-least
returns-clause-least c = min-le-timeout

pub returns-clause-most : goal.returns-clause-most
returns-clause-most c = timeout-le-max
