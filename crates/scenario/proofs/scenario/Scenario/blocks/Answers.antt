use Rattle.std.proofs.Common.{subst}
use Rattle.scenario.specs.Setup.{IsSound}
use Rattle.scenario.proofs.scenario.Scenario.blocks.Goals as goal

pub returns-clause-sound : goal.returns-clause-sound
returns-clause-sound c = subst IsSound c.self.view_is c.self.invariant.sound
