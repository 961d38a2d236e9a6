-- Which members get a lane, and in which order.
use Rattle.std.specs.Prelude.{ℕ, Bool, ◌+◌, ◌-◌, ◌^◌, ◌||◌, ◌==◌, nat_lt, if◌then◌else◌, Option, Some, None, List, filter_map, sum_by, min, unwrap_or}
use Rattle.std.specs.List.{range_with_len, list_any}
use Rattle.scenario.specs.Setup.{Setup, member_count}
use Rattle.trace.specs.declared.row.Row.{Row}
use Rattle.series.specs.Spans.{span_count}
use Rattle.series.specs.Changes.{came}
use Rattle.series.specs.Stories.{claims_of}
use Rattle.member_timelines.specs.declared.chosen.Chosen.{Chosen}
use Rattle.member_timelines.specs.Wrongly.{times_out}
use Rattle.member_timelines.specs.Told.{first_departure}

-- the most that 64 bits hold
abbrev pub most_of_all : ℕ
most_of_all = 2 ^ 64 - 1

-- how often members came to suspect a member in a span, or to hold it dead
abbrev pub accused_in : Setup → List Row → ℕ → ℕ → ℕ
accused_in s rows member span = came 1 span (claims_of s member rows) + came 2 span (claims_of s member rows)

-- how often they did so in all spans, as far as 64 bits hold it
abbrev pub times_accused : Setup → List Row → ℕ → ℕ
times_accused s rows member = min (sum_by (accused_in s rows member) (range_with_len 0 (span_count s))) most_of_all

-- when a member first departs by the end; past all moments where it doesn't
abbrev pub departs : Setup → ℕ → ℕ
departs s member = unwrap_or (first_departure s member) most_of_all

-- the scenario has the member be slow or paused
abbrev pub is_ever_slow : Setup → ℕ → Bool
is_ever_slow s member = list_any (λ slow. slow.member == member) s.slows || list_any (λ pause. pause.member == member) s.pauses

-- it has it be blocked, or start again
abbrev pub is_ever_blocked : Setup → ℕ → Bool
is_ever_blocked s member = list_any (λ block. block.member == member) s.blocks || list_any (λ restart. restart.member == member) s.restarts

-- those that were accused, and those that the scenario has something happen to
abbrev pub has_lane : Setup → List Row → ℕ → Bool
has_lane s rows member = nat_lt 0 (times_accused s rows member) || (nat_lt (departs s member) most_of_all || (is_ever_slow s member || is_ever_blocked s member))

-- By what lanes are ordered: first those that were wrongly confirmed most often to have failed, then those that depart,
-- the earliest first, then those that were accused most often, then by number.
abbrev pub choice_of : Setup → List Row → ℕ → Chosen
choice_of s rows member =
    record {
      below_most = most_of_all - times_out s rows member;
      departs = departs s member;
      below_most_suspected = most_of_all - times_accused s rows member;
      member = member;
    }

-- a member, where it gets a lane
abbrev pub choice : Setup → List Row → ℕ → Option Chosen
choice s rows member = if has_lane s rows member then Some (choice_of s rows member) else None

-- all that get one, in the order of their numbers
abbrev pub choices : Setup → List Row → List Chosen
choices s rows = filter_map (choice s rows) (range_with_len 0 (member_count s))

-- how often a member with a lane was wrongly confirmed to have failed
abbrev pub times_of : Chosen → ℕ
times_of lane = most_of_all - lane.below_most
