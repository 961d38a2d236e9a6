use Rattle.drive_process.proofs.Fair.{driven_later, driven_own, driven_linked}
use Rattle.drive_world.proofs.laws.driven_members_keep_delays.Goals as goal

pub returns : goal.returns
returns c = λ s answers sound are. record {
  later = driven_later s sound answers are;
  own = driven_own s sound answers are;
  delayed = driven_linked s sound answers are;
}
