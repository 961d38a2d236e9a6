use Rattle.windows.proofs.Members.{sound_opening, sound_after}
use Rattle.windows.proofs.laws.safe_steps_keep_a_cluster_sound.Goals as goal

pub returns-clause-opening : goal.returns-clause-opening
returns-clause-opening c = sound_opening

pub returns-clause-schedule : goal.returns-clause-schedule
returns-clause-schedule c = sound_after
