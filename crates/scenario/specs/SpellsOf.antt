-- What `Spells` stand for.
use Rattle.std.specs.Prelude.{List}
use Rattle.scenario.specs.Spells.{AreApart}
use Rattle.scenario.specs.declared.spells.Spell.{Spell}
use Rattle.scenario.specs.declared.spells.Spells.TheInside.{Inside}

abbrev pub spells_of : Inside → List Spell
spells_of s = s.spells.items

abbrev pub AreSpells : Inside → Type 0
AreSpells s = AreApart s.spells.items
