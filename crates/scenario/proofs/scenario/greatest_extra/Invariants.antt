use Rattle.std.proofs.Common.{◌≡◌, take}
use Rattle.scenario.specs.Setup.{greatest_extra}
use Rattle.scenario.proofs.scenario.greatest_extra.Given as goal

abbrev pub invariant-loop-slow : goal.invariant-loop-slow
invariant-loop-slow l = l.greatest ≡ greatest_extra (take l.slow-index l.slows) l.member l.at
