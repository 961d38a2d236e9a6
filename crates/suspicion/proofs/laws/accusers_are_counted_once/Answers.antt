use Rattle.suspicion.proofs.Timers.{CountsAccusersOnce-accused}
use Rattle.suspicion.proofs.laws.accusers_are_counted_once.Goals as goal

pub returns-clause-accused : goal.returns-clause-accused
returns-clause-accused c = CountsAccusersOnce-accused
