use Rattle.plain_entries.specs.Restarts.{restart_timing}
use Rattle.expansion.proofs.Stays.{list_stays}
use Rattle.expansion.proofs.laws.plain_restarts_stay.Goals as goal

pub returns : goal.returns
returns c = λ start entries words plain. list_stays restart_timing start entries words plain
