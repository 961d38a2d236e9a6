-- Crashes of which it is watched how others learn of them.
use Rattle.std.specs.Prelude.{ℕ, Bool, nat_le, nat_lt, if◌then◌else◌, Option, Some, None, count_by}
use Rattle.std.specs.List.{range_with_len}
use Rattle.std.specs.Option.{is_some}
use Rattle.scenario.specs.Setup.{Setup, member_count, crash_of}

-- when something happens, where it does by a last moment
abbrev pub at_by : ℕ → Option ℕ → Option ℕ
at_by end (Some at) = if nat_le at end then Some at else None
at_by end None = None

-- when a member crashes, where it does by the scenario's end
abbrev pub crash_by_end : Setup → ℕ → Option ℕ
crash_by_end s member = at_by s.end (crash_of s member)

-- the member crashes by then
abbrev pub crashes : Setup → ℕ → Bool
crashes s member = is_some (crash_by_end s member)

-- how many of the first so many members do
abbrev pub crashed : Setup → ℕ → ℕ
crashed s members = count_by (crashes s) (range_with_len 0 members)

-- the crash of a member that is watched: it is one of the first 12 by their members' numbers
abbrev pub watched : Setup → ℕ → Option ℕ
watched s member = if nat_lt (crashed s member) 12 then crash_by_end s member else None

-- how many places there are for when each member learns of a crash: one for each member, where it is watched
abbrev pub places : Setup → ℕ → ℕ
places s member = if is_some (watched s member) then member_count s else 0
