-- Plain entries of any of the six lists, with all that a line says of them.
use Rattle.std.specs.Prelude.{ℕ, List, slice_get, Option, None}
use Rattle.std.specs.Option.{option_map_or}
use Rattle.scenario.specs.declared.spells.Spell.{Spell}
use Rattle.plain_entries.specs.declared.departures.Departure.{Departure}
use Rattle.plain_entries.specs.declared.restarts.Restart.{Restart}
use Rattle.plain_entries.specs.declared.plain.Plain.{Plain}
use Rattle.script_summary.specs.declared.happening.Happening.{Happening}

-- at one moment, of a member that may ask another one
abbrev pub at_moment : (entry member at : ℕ) → Option ℕ → Happening
at_moment entry member at contact = record { entry = entry; member = member; from = at; until = at; extra = 0; contact = contact }

abbrev pub of_departure : Plain Departure → Happening
of_departure it = at_moment it.entry it.member it.time.at None

abbrev pub of_restart : Plain Restart → Happening
of_restart it = at_moment it.entry it.member it.time.at it.time.contact

-- a time, by so much slow
abbrev pub spell_with : (extra : ℕ) → Plain Spell → Happening
spell_with extra it = record { entry = it.entry; member = it.member; from = it.time.from; until = it.time.until; extra = extra; contact = None }

-- a pause or a block
abbrev pub of_spell : Plain Spell → Happening
of_spell it = spell_with 0 it

-- by how much the text's entry at a place says that a member is slow
abbrev pub extra_at : (extras : List ℕ) → (entry : ℕ) → ℕ
extra_at extras entry = option_map_or (λ extra. extra) (slice_get extras entry) 0

abbrev pub of_slow : (extras : List ℕ) → Plain Spell → Happening
of_slow extras it = spell_with (extra_at extras it.entry) it
