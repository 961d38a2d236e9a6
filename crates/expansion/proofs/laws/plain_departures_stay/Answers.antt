use Rattle.plain_entries.specs.Departures.{departure_timing}
use Rattle.expansion.proofs.Stays.{list_stays}
use Rattle.expansion.proofs.laws.plain_departures_stay.Goals as goal

pub returns : goal.returns
returns c = λ start entries words plain. list_stays departure_timing start entries words plain
