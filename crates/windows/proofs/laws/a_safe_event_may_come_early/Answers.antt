use Rattle.windows.proofs.Members.{early_here}
use Rattle.windows.proofs.laws.a_safe_event_may_come_early.Goals as goal

pub returns : goal.returns
returns c = early_here
