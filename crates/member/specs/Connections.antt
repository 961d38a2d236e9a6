-- How connections are opened by memberlist 0.5.0's rules (net.go: sendAndReceiveState): by a dial, whose two trips the systems make, also that of a process that
-- is blocked by now or doesn't run. Over a connection that is there goes all that its opener knows.
use Rattle.std.specs.Prelude.{ℕ, ◌+◌, true, false, Option, Some, None, unwrap_or}
use Rattle.base.specs.declared.key.Key.{Key}
use Rattle.scenario.specs.Setup.{Setup}
use Rattle.links.specs.Dials.{dial_of}
use Rattle.streams.specs.Draw.{Words}
use Rattle.trace.specs.declared.row.What.{What}
use Rattle.trace.specs.declared.row.What.TheVariants as what
use Rattle.member.specs.declared.event_kind.EventKind.TheVariants.{ConnectedTimer}
use Rattle.member.specs.State.{State}
use Rattle.member.specs.Effects.{Effect, with_row, with_event}
use Rattle.member.specs.Blocks.{departs_at}

-- other words are left
abbrev pub with_words : Words → State → State
with_words words t = record t { words = words }

-- when the connection is there that a member opens to another, if it is in time
abbrev pub dial_drawn : Setup → Key → ℕ → State → Option ℕ × Words
dial_drawn s k to t = dial_of s k.to to (departs_at s k) s.dial.limit t.words

-- when a dial is done: when the connection is there, or its time is up
abbrev pub dial_done : Setup → Key → Option ℕ → ℕ
dial_done s k there = unwrap_or there (departs_at s k + s.dial.limit)

-- the connection is there then
abbrev pub connection_set : Setup → Key → ℕ → ℕ → Effect → Effect
connection_set s k to there o = with_event s k there k.to (ConnectedTimer to) o

-- a dial: its row, and when the connection is there, if it is
abbrev pub dialed : Setup → Key → What → ℕ → Option ℕ → Effect → Effect
dialed s k tells to None o = with_row k tells (Some to) 0 true o
dialed s k tells to (Some there) o = connection_set s k to there (with_row k tells (Some to) 0 false o)

-- a dial for a push, whose row comes when the push is sent; the dial has one where it is lost
abbrev pub push_dialed : Setup → Key → ℕ → Option ℕ → Effect → Effect
push_dialed s k to None o = with_row k what.Push (Some to) 0 true o
push_dialed s k to (Some there) o = connection_set s k to there o
