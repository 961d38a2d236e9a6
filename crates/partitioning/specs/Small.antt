-- Runs in which so little is likely to happen that several threads cost more time than they save.
use Rattle.std.specs.Prelude.{◌≡◌, ℕ, ◌+◌, ◌*◌, ◌/◌, ◌<◌}
use Rattle.scenario.specs.Setup.{Setup, member_count}
use Rattle.scenario.specs.Division.{Deal, in_turn}

-- in how many ticks some 65,536 periods of members pass, where each counts the more, the more members there are to hear of
abbrev pub worth_ticks : Setup → ℕ
worth_ticks s = 65536 * s.swim.period / member_count s / (1 + member_count s / 32)

-- the run ends before
abbrev pub IsSmall : Setup → Type 0
IsSmall s = s.end < worth_ticks s

-- the division has the members in turn, in a part for each worker, as where none is asked for
abbrev pub IsUnasked : Setup → ℕ → Deal → Type 0
IsUnasked s workers deal = deal ≡ in_turn (member_count s) workers
