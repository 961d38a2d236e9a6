use Rattle.plain_entries.specs.Spells.{spell_timing}
use Rattle.expansion.proofs.Stays.{list_stays}
use Rattle.expansion.proofs.laws.plain_spells_stay.Goals as goal

pub returns : goal.returns
returns c = λ start entries words plain. list_stays spell_timing start entries words plain
