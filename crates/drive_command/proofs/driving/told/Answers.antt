use Rattle.std.proofs.Common.{subst, sym}
use Rattle.drive_command.specs.Ends.{EndsBy}
use Rattle.drive_command.proofs.Told.{end_untold}
use Rattle.drive_command.proofs.driving.told.Goals as goal

pub returns-in-Err-write_end-clause-failed : goal.returns-in-Err-write_end-clause-failed
returns-in-Err-write_end-clause-failed g c =
    subst (λ outcome. EndsBy outcome c.drive_failure.result) (sym c.in-Ok.is) (end_untold _ _ c.in-Err-write_end.ensures.ends c.drive_failure.ensures)
