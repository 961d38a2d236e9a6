-- What rules 5 and 7 have kept of entries before rule 9 is asked: moments up to 2^40, lengths from 1 to 2^31, and
-- members that are there, no more than a scenario may have.
use Rattle.std.specs.Prelude.{◌≤◌, ℕ, ◌^◌, All}
use Rattle.script_draws.specs.Again.{IsRecurrence}
use Rattle.plain_entries.specs.Entries.{IsEntry}
use Rattle.plain_entries.specs.Departures.{IsDepartureTime}
use Rattle.plain_entries.specs.Restarts.{IsRestartTime}
use Rattle.plain_entries.specs.declared.spells.SpellTime.{SpellTime}
use Rattle.plain_entries.specs.declared.spells.SpellTime.TheVariants as spell
use Rattle.plain_entries.specs.declared.script.Script.{Script}

-- the most that such a time lasts may still be below the least
abbrev pub IsSpellRange : SpellTime → Type 0
IsSpellRange (spell.Once once) = Unit {0}
IsSpellRange (spell.Again recurrence lasting) = IsRecurrence recurrence × ((1 ≤ lasting.least) × (lasting.most ≤ 2 ^ 31))

-- the six lists, where there are so many members
pub record AreInRange (count : ℕ) (script : Script) : Type 0 where
  pub crashes : All (IsEntry IsDepartureTime count) script.crashes.items
  pub leaves : All (IsEntry IsDepartureTime count) script.leaves.items
  pub restarts : All (IsEntry IsRestartTime count) script.restarts.items
  pub slows : All (IsEntry IsSpellRange count) script.slows.items
  pub pauses : All (IsEntry IsSpellRange count) script.pauses.items
  pub blocks : All (IsEntry IsSpellRange count) script.blocks.items
