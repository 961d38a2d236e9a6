use Rattle.scenario.proofs.Pauses.{always_awake}
use Rattle.scenario.proofs.laws.earlier_versions_never_pause.Goals as goal

pub returns : goal.returns
returns c = always_awake
