-- Where the count of each kind of row stands, and what the counts say.
use Rattle.std.specs.Prelude.{◌≡◌, ℕ, List, length, slice_index}
use Rattle.trace.specs.declared.row.What.{What}
use Rattle.trace.specs.declared.row.What.TheVariants as what
use Rattle.trace.specs.declared.row.Row.{Row}
use Rattle.reports.specs.declared.counts.Counts.{Counts}
use Rattle.trace_rows.specs.Rows.{count_of, losses_of, worst_health}

-- the place of a kind of row among the counts
abbrev pub count_place : What → ℕ
count_place what.Start = 0
count_place what.Crash = 1
count_place what.Joined = 2
count_place what.Join = 3
count_place what.Welcome = 4
count_place what.Ping = 5
count_place what.PingReq = 6
count_place what.Ack = 7
count_place what.Nack = 8
count_place what.Fail = 9
count_place what.Health = 10
count_place what.Alive = 11
count_place what.Suspect = 12
count_place what.Confirm = 13
count_place what.Accuse = 14
count_place what.Refute = 15
count_place what.Dead = 16
count_place what.Leave = 17
count_place what.Bye = 18
count_place what.Gossip = 19
count_place what.Call = 20
count_place what.Answer = 21
count_place what.Push = 22
count_place what.Pull = 23
count_place what.Restart = 24
count_place what.Exit = 25
count_place what.Left = 26
count_place what.Forget = 27
count_place what.Reconnect = 28

-- the counts are those of these rows
pub record AreCountsOf (counts : Counts) (rows : List Row) : Type 0 where
  pub all : counts.rows ≡ length rows
  pub told : (kind : What) → slice_index counts.told (count_place kind) ≡ count_of kind rows
  pub lost : (kind : What) → slice_index counts.lost (count_place kind) ≡ losses_of kind rows
  pub health : counts.worst_health ≡ worst_health rows
