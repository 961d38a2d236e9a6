use Rattle.std.proofs.Common.{arith}
use Rattle.turns.specs.Wheels.{wheel_set}
use Rattle.turns.proofs.Admitted.{none_stand}
use Rattle.turns.proofs.opening.open_wheels.Goals as goal

pub admit_all-requires-clause-empty : goal.admit_all-requires-clause-empty
admit_all-requires-clause-empty c =
    none_stand wheel_set c.args.scenario.now c.args.division.now c.in_ok-parts.parts.items (omega (arith, c.in_ok-parts.ensures.count, c.parts.ensures.value, c.in_ok-parts.parts.ok.0)) c.in_ok-parts.ensures.empty c.in_ok-parts.ensures.numbered
