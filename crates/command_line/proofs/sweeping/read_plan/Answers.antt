use Rattle.std.proofs.Common.{subst}
use Rattle.sweep_plan.specs.Asked.{RefusesSweep}
use Rattle.command_line.proofs.sweeping.read_plan.Goals as goal

pub returns-in-Err-Words-clause-usage : goal.returns-in-Err-Words-clause-usage
returns-in-Err-Words-clause-usage c e plan h =
    let refused = subst (RefusesSweep _ _ _) c.in-Err-Words.field-0-is c.in-Err-Words.ensures.refused in
    refused plan h
