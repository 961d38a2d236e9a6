use Rattle.suspicion.proofs.Timeouts.{timeout-falls}
use Rattle.suspicion.proofs.laws.accusers_never_lengthen.Goals as goal

pub returns : goal.returns
returns c = timeout-falls
