use Rattle.drive_world.proofs.Written.{written_at_end}
use Rattle.drive_world.proofs.laws.a_drive_writes_the_run.Goals as goal

pub returns : goal.returns
returns c = λ s least_delay answers course sorted cmp sound least are is agree order over items up.
    written_at_end s sound least_delay least answers are course is agree cmp order sorted items up over
