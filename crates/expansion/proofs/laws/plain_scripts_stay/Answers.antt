use Rattle.expansion.proofs.Whole.{script_stays}
use Rattle.expansion.proofs.laws.plain_scripts_stay.Goals as goal

pub returns : goal.returns
returns c = script_stays
