-- What a run costs in which nothing is lost and nobody crashes, leaves or pauses: each member pings another one in each of its periods, and is answered;
-- and it pushes its table, where members do that, and is sent another one. A quiet cluster doesn't gossip.
use Rattle.std.specs.Prelude.{ℕ, ◌+◌, ◌-◌, ◌*◌, ◌/◌, nat_lt, nat_le, min, if◌then◌else◌, map, sum, length}
use Rattle.std.specs.List.{range_with_len}
use Rattle.scenario.specs.Setup.{Setup, member_count, start_of, name_of}
use Rattle.meaning.specs.Pushes.{half_push, pushes_in}
use Rattle.meaning.specs.declared.quiet.Quiet.{Quiet}

-- A member's first period begins 1 to `spread` ticks after its start, as chance has it: the middle is taken, which is the moment itself where `spread` is 1.
abbrev pub first_period : Setup → ℕ → ℕ
first_period s m = start_of s m + (s.swim.spread + 1) / 2

-- how many periods of a member have begun by a moment
abbrev pub periods_by : Setup → ℕ → ℕ → ℕ
periods_by s m t = if nat_le (first_period s m) t then (t - first_period s m) / s.swim.period + 1 else 0

-- how many pushes a member begins up to the end: the first a whole time between two of them after a number below `push`, of which the middle is taken
abbrev pub pushes_of : Setup → ℕ → ℕ
pushes_of s m = pushes_in s (s.end - (first_period s m + half_push s))

-- Up to the end it pings somebody in each of its periods; an ack is sent as its ping arrives, after the link's delay; and each push is followed by a pull.
abbrev pub messages_of : Setup → ℕ → ℕ
messages_of s m = periods_by s m s.end + periods_by s m (s.end - s.link.delay) + 2 * pushes_of s m

-- those of the first k members
abbrev pub messages_below : Setup → ℕ → ℕ
messages_below s k = sum (map (messages_of s) (range_with_len 0 k))

-- a member that starts after the end has no row
abbrev pub starts_of : Setup → ℕ → ℕ
starts_of s m = if nat_le (start_of s m) s.end then 1 else 0

-- how many of the first k members start by the end
abbrev pub starts_below : Setup → ℕ → ℕ
starts_below s k = sum (map (starts_of s) (range_with_len 0 k))

-- the bytes of a member's name; none has more than 38
abbrev pub name_bytes : Setup → ℕ → ℕ
name_bytes s m = min (length (name_of s m)) 38

-- the bytes of the names of the first k members
abbrev pub names_below : Setup → ℕ → ℕ
names_below s k = sum (map (name_bytes s) (range_with_len 0 k))

-- a ping and an ack, or a push and a pull, where there is somebody else
abbrev pub messages_an_exchange : Setup → ℕ
messages_an_exchange s = if nat_lt 1 (member_count s) then 2 else 0

-- each row has three names, and about 24 bytes besides
abbrev pub row_bytes : Setup → ℕ
row_bytes s = 24 + 3 * (names_below s (member_count s) / member_count s)

-- those of all members, where two start by the end
abbrev pub quiet_messages : Setup → ℕ
quiet_messages s = if nat_le (starts_below s (member_count s)) 1 then 0 else messages_below s (member_count s)

-- a row for each message, and one for each start
abbrev pub quiet_rows : Setup → ℕ
quiet_rows s = starts_below s (member_count s) + quiet_messages s

abbrev pub quiet_of : Setup → Quiet
quiet_of s = record {
  messages_a_period = messages_an_exchange s * member_count s + messages_an_exchange s * pushes_in s (member_count s * s.swim.period);
  messages_a_second = messages_an_exchange s * member_count s * 1000 / s.swim.period + messages_an_exchange s * pushes_in s (member_count s * 1000);
  messages = quiet_messages s;
  rows = quiet_rows s;
  bytes = quiet_rows s * row_bytes s;
}
