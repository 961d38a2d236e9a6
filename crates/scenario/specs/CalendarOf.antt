-- What a `Calendar` stands for.
use Rattle.std.specs.Prelude.{◌<◌}
use Rattle.scenario.specs.Calendar.{Stretches}
use Rattle.scenario.specs.declared.calendar.Calendar.TheInside.{Inside}

abbrev pub stretches_of : Inside → Stretches
stretches_of c = record { shift = c.shift; owners = c.owners.items; unknown = c.unknown }

abbrev pub IsCalendar : Inside → Type 0
IsCalendar c = c.shift < 64
