use Rattle.scenario.proofs.Pauses.{awake_least}
use Rattle.scenario.proofs.laws.members_are_awake_as_soon_as_they_can.Goals as goal

pub returns : goal.returns
returns c = awake_least
