use Rattle.drive_world.proofs.Scheduled.{on_course}
use Rattle.drive_world.proofs.laws.a_drive_is_a_schedule.Goals as goal

pub returns : goal.returns
returns c = λ s least_delay answers course sound least are is agree.
    let on = on_course s sound least_delay least answers are course is agree in record { schedule = on.schedule; safe = on.safe }
