-- The items of the six lists as entries.
use Rattle.std.specs.Prelude.{ℕ, List, Option, Some, None, Result, Ok, Err}
use Rattle.toml.specs.Data.{Data}
use Rattle.scenario.specs.Setup.{Group}
use Rattle.plain_entries.specs.declared.departures.DepartureTime.{DepartureTime}
use Rattle.plain_entries.specs.declared.entry.Entry.{Entry}
use Rattle.plain_entries.specs.declared.restarts.RestartTime.{RestartTime}
use Rattle.plain_entries.specs.declared.spells.SpellTime.{SpellTime}
use Rattle.written_names.specs.declared.roster.WrittenGroup.{WrittenGroup}
use Rattle.written_values.specs.declared.fault.ValueFault.{ValueFault}
use Rattle.script_reader.specs.declared.item.WrittenItem.{WrittenItem}
use Rattle.script_reader.specs.Numbers.{AreWithin}
use Rattle.script_reader.specs.Rules.{item_of}
use Rattle.script_reader.specs.Times.{departure_of, restart_of, spell_of}
use Rattle.script_reader.specs.Values.{count_at}
use Rattle.script_reader.specs.Who.{members_in}

-- what an entry says: about whom, how many of them, and when
pub record Said (W : Type 0) : Type 0 where
  pub members : List ℕ
  pub count : Option ℕ
  pub when : W

abbrev pub said : {W : Type 0} → Entry W → Said W
said entry = record { members = entry.who.members.items; count = entry.who.count; when = entry.when }

abbrev pub count_said : Option (Result ℕ ValueFault) → Option ℕ
count_said (Some (Ok count)) = Some count
count_said (Some (Err fault)) = None
count_said None = None

abbrev pub count_of : Data → Option ℕ
count_of d = count_said (count_at d)

-- the numbers of an item are in their ranges
abbrev pub HasNumbers : WrittenItem → Type 0
HasNumbers it = AreWithin it.numbers

abbrev pub departure_said : List Group → List WrittenGroup → WrittenItem → Said DepartureTime
departure_said roster groups it = record { members = members_in roster groups (item_of it); count = count_of (item_of it); when = departure_of roster (item_of it) it.numbers }

abbrev pub restart_said : List Group → List WrittenGroup → WrittenItem → Said RestartTime
restart_said roster groups it = record { members = members_in roster groups (item_of it); count = count_of (item_of it); when = restart_of roster (item_of it) it.numbers }

abbrev pub spell_said : List Group → List WrittenGroup → WrittenItem → Said SpellTime
spell_said roster groups it = record { members = members_in roster groups (item_of it); count = count_of (item_of it); when = spell_of it.numbers }
