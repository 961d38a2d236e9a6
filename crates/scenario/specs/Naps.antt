-- When members are paused, member by member.
use Rattle.std.specs.Prelude.{◌≡◌, ℕ, true, List, []}
use Rattle.std.specs.List.{slice_index_or}
use Rattle.scenario.specs.Spells.{is_in_any}
use Rattle.scenario.specs.Calendar.{Stretches, may_be_in}
use Rattle.scenario.specs.declared.spells.Spell.{Spell}

-- the times of a member: none for whom there is no place
abbrev pub naps_at : List (List Spell) → ℕ → List Spell
naps_at naps m = slice_index_or naps m []

-- the calendar tells of each member's times
abbrev pub AreNoted : Stretches → List (List Spell) → Type 0
AreNoted calendar naps = (m t : ℕ) → is_in_any (naps_at naps m) t ≡ true → may_be_in calendar m t ≡ true
