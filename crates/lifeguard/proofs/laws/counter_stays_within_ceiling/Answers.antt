use Rattle.std.proofs.Common.{arith}
use Rattle.lifeguard.specs.Health.{full_health}
use Rattle.lifeguard.proofs.HealthRuns.{counter-after_signs, ceiling-after_signs}
use Rattle.lifeguard.proofs.laws.counter_stays_within_ceiling.Goals as goal

pub returns-clause-counter : goal.returns-clause-counter
returns-clause-counter c ceiling signs = counter-after_signs (full_health ceiling) signs (omega arith)

pub returns-clause-ceiling : goal.returns-clause-ceiling
returns-clause-ceiling c ceiling signs = ceiling-after_signs (full_health ceiling) signs
