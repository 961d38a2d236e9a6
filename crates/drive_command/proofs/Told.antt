-- How the outcome of a drive is reported.
use Rattle.std.proofs.Common.{◌≡◌, ◌⊎◌, Result, Ok, Err, OnOk, OnErr, IfErr, refl, subst, inl, inr}
use Rattle.base.specs.declared.fault.Fault.TheVariants as fault
use Rattle.command_line.specs.declared.answers.DriveStop.TheVariants as stopped
use Rattle.command_line.specs.declared.failure.Failure.{Failure}
use Rattle.command_line.specs.declared.failure.Failure.TheVariants.{Run, Drive}
use Rattle.drive_world.specs.declared.ends.DriveError.{DriveError}
use Rattle.drive_world.specs.declared.ends.DriveError.TheVariants as error
use Rattle.drive_command.specs.Ends.{EndsBy, IsToldBy}

-- a harness to which the end can't be sent
pub end_untold : (e : DriveError) (failure : Failure) → (e ≡ error.Closed) ⊎ (e ≡ error.Fault fault.Memory) → IsToldBy e failure
    → (failure ≡ Drive stopped.Closed) ⊎ (failure ≡ Run fault.Memory)
end_untold e failure (inl is) told = inl (subst (λ x. IsToldBy x failure) is told)
end_untold e failure (inr is) told = inr (subst (λ x. IsToldBy x failure) is told)

-- what is reported as done was done
pub told_done : {T U E F P Q R : Type 0} (told : Result T E) (outcome : Result U F) → OnOk told (OnOk outcome P) → OnErr outcome (OnOk told ⊥) → OnOk outcome Q → (P → Q → R) → OnOk told R
told_done (Err e) outcome ended was done then = tt
told_done (Ok x) (Ok y) ended was done then = then ended done
told_done (Ok x) (Err f) ended was done then = absurd was

-- and what isn't has its cause
pub told_failed : {T Q S : Type 0} {R : DriveError → Type 0} {Ends : Failure → Type 0} (told : Result T Failure) (outcome : Result Unit DriveError) → IfErr told (EndsBy outcome)
    → OnOk outcome Q → IfErr outcome R → OnErr outcome S → ((failure : Failure) → (failure ≡ Drive stopped.Closed) ⊎ (failure ≡ Run fault.Memory) → Q → Ends failure)
    → ((e : DriveError) (failure : Failure) → IsToldBy e failure → R e → S → Ends failure) → IfErr told Ends
told_failed (Ok x) outcome by done early same ended left = tt
told_failed (Err failure) (Ok u) by done early same ended left = ended failure by done
told_failed (Err failure) (Err e) by done early same ended left = left e failure by early same
