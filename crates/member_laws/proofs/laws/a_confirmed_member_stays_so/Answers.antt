use Rattle.member_laws.proofs.Confirms.{stays_confirmed}
use Rattle.member_laws.proofs.laws.a_confirmed_member_stays_so.Goals as goal

pub returns : goal.returns
returns c = stays_confirmed
