use Rattle.std.proofs.Common.{arith}
use Rattle.worker_queue.specs.SetOf.{set_of}
use Rattle.turns.proofs.Admitted.{none_stand}
use Rattle.turns.proofs.opening.open_parts.Goals as goal

pub admit_all-requires-clause-empty : goal.admit_all-requires-clause-empty
admit_all-requires-clause-empty c =
    none_stand set_of c.args.scenario.now c.args.division.now c.in_ok-parts.parts.items (omega (arith, c.in_ok-parts.ensures.count, c.parts.ensures.value, c.in_ok-parts.parts.ok.0)) c.in_ok-parts.ensures.empty c.in_ok-parts.ensures.numbered
