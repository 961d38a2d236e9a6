-- Times in which members are slow, paused or blocked.
use Rattle.std.specs.Prelude.{ℕ, Bool, true, false, List, [], ◌∷◌}
use Rattle.streams.specs.Draw.{Words}
use Rattle.scenario.specs.declared.spells.Spell.{Spell}
use Rattle.script_draws.specs.Again.{spells_of, IsRecurrence, IsLasting}
use Rattle.plain_entries.specs.declared.spells.SpellTime.{SpellTime}
use Rattle.plain_entries.specs.declared.spells.SpellTime.TheVariants as spell
use Rattle.plain_entries.specs.Entries.{Timing}

abbrev pub spell_recurs : SpellTime → Bool
spell_recurs (spell.Once once) = false
spell_recurs (spell.Again recurrence lasting) = true

-- the one time of all members; or those of each, again and again
abbrev pub spell_times : SpellTime → ℕ → ℕ → Words → List Spell × Words
spell_times (spell.Once once) k start words = (once ∷ [], words)
spell_times (spell.Again recurrence lasting) k start words = spells_of recurrence lasting words

abbrev pub spell_timing : Timing SpellTime Spell
spell_timing = record { recurs = spell_recurs; times = spell_times }

-- what the format allows
abbrev pub IsSpellTime : SpellTime → Type 0
IsSpellTime (spell.Once once) = Unit {0}
IsSpellTime (spell.Again recurrence lasting) = IsRecurrence recurrence × IsLasting lasting
