-- What comes again and again: when it begins and ends, for one member by itself.
use Rattle.std.specs.Prelude.{◌≤◌, ℕ, zero, suc, ◌+◌, ◌-◌, ◌*◌, ◌^◌, List, [], ◌∷◌, min, nat_lt, if◌then◌else◌}
use Rattle.streams.specs.Draw.{Words, below_of}
use Rattle.scenario.specs.declared.spells.Spell.{Spell}
use Rattle.script_draws.specs.declared.again.Recurrence.{Recurrence}
use Rattle.script_draws.specs.declared.again.Lasting.{Lasting}

-- the moment of the next beginning, where one ends at this moment: from the end of one to the beginning of the
-- next `every` on the mean
abbrev pub next_of : Recurrence → ℕ → Words → ℕ × Words
next_of recurrence ended words =
    let drawn = below_of words (2 * recurrence.every - 1) in
    (ended + 1 + drawn.0, drawn.1)

-- the first beginning
abbrev pub first_of_all : Recurrence → Words → ℕ × Words
first_of_all recurrence words =
    let drawn = below_of words recurrence.every in
    (recurrence.from + drawn.0, drawn.1)

-- how long a time lasts
abbrev pub lasting_of : Lasting → Words → ℕ × Words
lasting_of lasting words =
    let drawn = below_of words (lasting.most - lasting.least + 1) in
    (lasting.least + drawn.0, drawn.1)

-- The times from the next beginning on, at most so many. What begins before `until` ends there at the latest; the
-- next begins after the end that was drawn.
abbrev pub spells_on : ℕ → Recurrence → Lasting → ℕ → Words → List Spell × Words
spells_on zero recurrence lasting begins words = ([], words)
spells_on (suc times) recurrence lasting begins words =
    if nat_lt begins recurrence.until then
    (let lasts = lasting_of lasting words in
    let next = next_of recurrence (begins + lasts.0) lasts.1 in
    let others = spells_on times recurrence lasting next.0 next.1 in
    (record { from = begins; until = min (begins + lasts.0) recurrence.until } ∷ others.0, others.1))
    else ([], words)

-- the times of one member; there are no more than moments before `until`
unfoldable pub spells_of : Recurrence → Lasting → Words → List Spell × Words
spells_of recurrence lasting words =
    let first = first_of_all recurrence words in
    spells_on recurrence.until recurrence lasting first.0 first.1

-- The moments from the next one on, at most so many, each ending so much later. One that isn't after the member's
-- start isn't made.
abbrev pub moments_on : ℕ → Recurrence → ℕ → ℕ → ℕ → Words → List ℕ × Words
moments_on zero recurrence back start moment words = ([], words)
moments_on (suc times) recurrence back start moment words =
    if nat_lt moment recurrence.until then
    (let next = next_of recurrence (moment + back) words in
    let others = moments_on times recurrence back start next.0 next.1 in
    (if nat_lt start moment then moment ∷ others.0 else others.0, others.1))
    else ([], words)

-- the moments at which a member that starts at `start` crashes or leaves, and is back so much later
unfoldable pub moments_of : Recurrence → ℕ → ℕ → Words → List ℕ × Words
moments_of recurrence back start words =
    let first = first_of_all recurrence words in
    moments_on recurrence.until recurrence back start first.0 first.1

-- what the format allows: moments up to 2^40, lengths from 1 to 2^31
pub record IsRecurrence (recurrence : Recurrence) : Type 0 where
  pub until_low : recurrence.until ≤ 2 ^ 40
  pub from_low : recurrence.from ≤ 2 ^ 40
  pub every_some : 1 ≤ recurrence.every
  pub every_low : recurrence.every ≤ 2 ^ 31

pub record IsLasting (lasting : Lasting) : Type 0 where
  pub some : 1 ≤ lasting.least
  pub ordered : lasting.least ≤ lasting.most
  pub low : lasting.most ≤ 2 ^ 31
