-- What rule 9 refuses of entries whose keys are right: members, moments and contacts that don't go together.
use Rattle.std.specs.Prelude.{ℕ, ◌+◌, Bool, false, ◌||◌, List, [], ◌∷◌, length, nat_eq, nat_le, nat_lt, Option, Some, None}
use Rattle.std.specs.List.{list_any}
use Rattle.std.specs.Option.{option_map_or}
use Rattle.script_draws.specs.Choice.{is_among}
use Rattle.plain_entries.specs.declared.departures.Back.{Back}
use Rattle.plain_entries.specs.declared.departures.DepartureTime.{DepartureTime}
use Rattle.plain_entries.specs.declared.departures.DepartureTime.TheVariants as departure
use Rattle.plain_entries.specs.declared.restarts.RestartTime.{RestartTime}
use Rattle.plain_entries.specs.declared.spells.SpellTime.{SpellTime}
use Rattle.plain_entries.specs.declared.spells.SpellTime.TheVariants as spell
use Rattle.plain_entries.specs.declared.entry.Entry.{Entry}
use Rattle.plain_entries.specs.declared.script.Script.{Script}
use Rattle.plain_entries.specs.declared.who.Who.{Who}

-- a member stands twice among these
abbrev pub stands_twice : List ℕ → Bool
stands_twice [] = false
stands_twice (member ∷ members) = list_any (nat_eq member) members || stands_twice members

-- more are to be chosen than there are, or one is named twice
abbrev pub is_bad_who : Who → Bool
is_bad_who who = option_map_or (nat_lt (length who.members.items)) who.count false || stands_twice who.members.items

-- one of these isn't gone after its start: the first at a moment, each other one so much after the one before
abbrev pub is_early : (start : ℕ → ℕ) → (at each : ℕ) → List ℕ → Bool
is_early start at each [] = false
is_early start at each (member ∷ members) = nat_le at (start member) || is_early start (at + each) each members

-- one of these is to ask itself
abbrev pub asks_itself : Option ℕ → List ℕ → Bool
asks_itself None members = false
asks_itself (Some contact) members = is_among members contact

-- nobody else is there to be asked by one that is back, or one of these is to ask itself; there are so many members
abbrev pub asks_nobody : (count : ℕ) → Option Back → List ℕ → Bool
asks_nobody count None members = false
asks_nobody count (Some back) members = nat_le count 1 || asks_itself back.contact members

abbrev pub is_bad_departure_time : (start : ℕ → ℕ) → (count : ℕ) → List ℕ → DepartureTime → Bool
is_bad_departure_time start count members (departure.Once at each back) = is_early start at each members || asks_nobody count back members
is_bad_departure_time start count members (departure.Again recurrence back) = nat_le recurrence.until recurrence.from || asks_nobody count (Some back) members

abbrev pub is_bad_spell_time : SpellTime → Bool
is_bad_spell_time (spell.Once once) = nat_le once.until once.from
is_bad_spell_time (spell.Again recurrence lasting) = nat_le recurrence.until recurrence.from || nat_lt lasting.most lasting.least

-- ---- an entry of each kind; `start` says when a member starts, and there are so many members

abbrev pub is_bad_departure : (start : ℕ → ℕ) → (count : ℕ) → Entry DepartureTime → Bool
is_bad_departure start count entry = is_bad_who entry.who || is_bad_departure_time start count entry.who.members.items entry.when

abbrev pub is_bad_restart : (start : ℕ → ℕ) → Entry RestartTime → Bool
is_bad_restart start entry =
    is_bad_who entry.who
    || (is_early start entry.when.at entry.when.each entry.who.members.items || asks_itself entry.when.contact entry.who.members.items)

abbrev pub is_bad_spell : Entry SpellTime → Bool
is_bad_spell entry = is_bad_who entry.who || is_bad_spell_time entry.when

-- rule 9: an entry of one of the six lists
unfoldable pub breaks_entries : (start : ℕ → ℕ) → (count : ℕ) → Script → Bool
breaks_entries start count script =
    list_any (is_bad_departure start count) script.crashes.items
    || (list_any (is_bad_departure start count) script.leaves.items
    || (list_any (is_bad_restart start) script.restarts.items
    || (list_any is_bad_spell script.slows.items
    || (list_any is_bad_spell script.pauses.items || list_any is_bad_spell script.blocks.items))))
