use Rattle.windows.specs.Safe.{IsSafe}
use Rattle.member.specs.Step.{step}
use Rattle.windows.proofs.Plays.{schedule_of}
use Rattle.windows.proofs.choices.a_play_is_a_schedule.Goals as goal

pub returns : goal.returns
returns c = λ s least_delay w v choices keys rows is. schedule_of (step s) (IsSafe s.end least_delay) choices w v keys rows is
