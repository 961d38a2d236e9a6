use Rattle.sequential_run.proofs.Runs.{new_events}
use Rattle.sequential_run.proofs.laws.events_are_new.Goals as goal

pub returns : goal.returns
returns c = λ s keys rows w k content sound run _. new_events s keys rows w k content sound run
