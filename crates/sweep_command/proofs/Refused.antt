-- A write fails only where a file refuses one.
use Rattle.std.proofs.Common.{◌≡◌, ◌<◌, ◌+◌, ◌∙◌, ℕ, Result, Ok, Err, IfErr, ap, arith}
use Rattle.toml.specs.Data.{Data}
use Rattle.base.specs.declared.fault.Fault.{Fault}
use Rattle.base.specs.declared.fault.Fault.TheVariants as fault
use Rattle.sweep_plan.specs.Sweep.{Sweep}
use Rattle.run_output.specs.Written.{sink_failures}
use Rattle.sweep.specs.Table.{HasCause}
use Rattle.sweep_command.specs.Outcomes.{IsCaused}

-- where the files count as many more as what was made has failures, it is ended by a write only where a file refused one
pub is_caused : {T : Type 0} (tree : Data) (plan : Sweep) (outcome : Result T Fault) (before after counted : ℕ) → after ≡ before + counted → counted ≡ sink_failures outcome
    → IfErr outcome (HasCause tree plan) → IfErr outcome (IsCaused (before < after) tree plan)
is_caused tree plan (Ok x) before after counted more fails causes = tt
is_caused {T} tree plan (Err cause) before after counted more fails causes = record { caused = causes; refused = by }
  where
    by : cause ≡ fault.Write → before < after
    by is =
        let one : counted ≡ 1 = fails ∙ ap (λ f. sink_failures {T = T} (Err f)) is in
        omega (arith, one, more)
