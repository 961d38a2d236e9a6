use Rattle.expansion.proofs.Stays.{one_is_plain}
use Rattle.expansion.proofs.laws.one_departure_is_plain.Goals as goal

pub returns : goal.returns
returns c = one_is_plain
