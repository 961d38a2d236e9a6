-- Which words of the trace an answer may use: those of messages, and those of rows that the world doesn't write itself.
use Rattle.std.specs.Prelude.{Bool, true, false}
use Rattle.trace.specs.declared.row.What.{What}
use Rattle.trace.specs.declared.row.What.TheVariants as what

-- a message's
abbrev pub is_message : What → Bool
is_message what.Join = true
is_message what.Welcome = true
is_message what.Ping = true
is_message what.PingReq = true
is_message what.Ack = true
is_message what.Nack = true
is_message what.Bye = true
is_message what.Gossip = true
is_message what.Call = true
is_message what.Answer = true
is_message what.Push = true
is_message what.Pull = true
is_message what.Reconnect = true
is_message _ = false

-- a row's that says what a member believes
abbrev pub is_told : What → Bool
is_told what.Joined = true
is_told what.Fail = true
is_told what.Health = true
is_told what.Alive = true
is_told what.Suspect = true
is_told what.Confirm = true
is_told what.Accuse = true
is_told what.Refute = true
is_told what.Dead = true
is_told what.Left = true
is_told what.Forget = true
is_told _ = false

-- each of these is about a member, but for that of one's own health
abbrev pub is_about_a_member : What → Bool
is_about_a_member what.Health = false
is_about_a_member _ = true
