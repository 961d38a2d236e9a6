-- When the items of a list are, by what their keys say.
use Rattle.std.specs.Prelude.{ℕ, if◌then◌else◌, List, is_some, Option, Some, None, Result, Ok, Err}
use Rattle.toml.specs.Data.{Data}
use Rattle.scenario.specs.Setup.{Group}
use Rattle.script_draws.specs.declared.again.Lasting.{Lasting}
use Rattle.script_draws.specs.declared.again.Recurrence.{Recurrence}
use Rattle.plain_entries.specs.declared.departures.Back.{Back}
use Rattle.plain_entries.specs.declared.departures.DepartureTime.{DepartureTime}
use Rattle.plain_entries.specs.declared.departures.DepartureTime.TheVariants as departure
use Rattle.plain_entries.specs.declared.restarts.RestartTime.{RestartTime}
use Rattle.plain_entries.specs.declared.spells.SpellTime.{SpellTime}
use Rattle.plain_entries.specs.declared.spells.SpellTime.TheVariants as spell
use Rattle.written_values.specs.declared.fault.ValueFault.{ValueFault}
use Rattle.script_reader.specs.declared.numbers.EntryNumbers.{EntryNumbers}
use Rattle.script_reader.specs.Numbers.{number_or}
use Rattle.script_reader.specs.Who.{contact_of}

abbrev pub recurrence_of : EntryNumbers → Recurrence
recurrence_of numbers = record { from = number_or 0 numbers.from; until = number_or 0 numbers.until; every = number_or 1 numbers.every }

-- `lasts_most` is `lasts` where it isn't said
abbrev pub lasting_of : EntryNumbers → Lasting
lasting_of numbers = record { least = number_or 1 numbers.lasts; most = number_or (number_or 1 numbers.lasts) numbers.lasts_most }

abbrev pub back_of : Option (Result ℕ ValueFault) → Option ℕ → Option Back
back_of (Some (Ok after)) contact = Some (record { after = after; contact = contact })
back_of (Some (Err fault)) contact = None
back_of None contact = None

-- again and again, where `every` is there
abbrev pub departure_of : List Group → Data → EntryNumbers → DepartureTime
departure_of roster d numbers =
    if is_some numbers.every
    then departure.Again (recurrence_of numbers) (record { after = number_or 1 numbers.back; contact = contact_of roster d })
    else departure.Once (number_or 0 numbers.at) (number_or 0 numbers.each) (back_of numbers.back (contact_of roster d))

abbrev pub restart_of : List Group → Data → EntryNumbers → RestartTime
restart_of roster d numbers = record { at = number_or 0 numbers.at; each = number_or 0 numbers.each; contact = contact_of roster d }

abbrev pub spell_of : EntryNumbers → SpellTime
spell_of numbers =
    if is_some numbers.every
    then spell.Again (recurrence_of numbers) (lasting_of numbers)
    else spell.Once (record { from = number_or 0 numbers.from; until = number_or 0 numbers.until })
