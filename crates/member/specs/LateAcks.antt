-- What a member makes of the messages of a probe by memberlist 0.5.0's rules (net.go: handlePing, handleIndirectPing, handleAck; state.go:
-- setAckHandler). The updates that ride on them are handed to another goroutine, so what the message itself asks for is done first. And a
-- helper forgets whom it helps when the nack is due: an ack that comes later is passed on to nobody.
use Rattle.std.specs.Prelude.{ℕ, nat_eq, if◌then◌else◌, List}
use Rattle.std.specs.FinSet as set
use Rattle.base.specs.declared.key.Key.{Key}
use Rattle.scenario.specs.Setup.{Setup}
use Rattle.incarnation.specs.declared.Update.{Update}
use Rattle.member.specs.declared.announce.Announce.TheVariants.{Aloud}
use Rattle.member.specs.Effects.{Effect, on_state}
use Rattle.member.specs.Send.{ack_sent, pings_ack_sent}
use Rattle.member.specs.Apply.{all_applied}
use Rattle.member.specs.LoneBuddy.{plain_ping_sent}
use Rattle.member.specs.Outcomes.{with_relay, nack_due}
use Rattle.member.specs.SingleBeat.{single_answered}

-- A ping is answered, then what rides on it is applied.
unfoldable pub ping_answered : Setup → Key → ℕ → ℕ → List Update → Effect → Effect
ping_answered s k initiator seq updates o = all_applied s Aloud k updates (pings_ack_sent s k k.from initiator seq o)

-- a helper pings the target on behalf of the initiator, and knows until the nack is due whom it helps, whether or not it sends nacks
abbrev pub help_given : Setup → Key → ℕ → ℕ → Effect → Effect
help_given s k seq target o = with_relay s k seq (plain_ping_sent s k target k.from seq o)

-- A request for help, then what rides on it.
unfoldable pub help_asked_for : Setup → Key → ℕ → ℕ → List Update → Effect → Effect
help_asked_for s k seq target updates o = all_applied s Aloud k updates (help_given s k seq target o)

-- nobody is helped any more by this number of this initiator
abbrev pub without_relay : ℕ → ℕ → Effect → Effect
without_relay initiator seq o = on_state (λ t. record t { relays = set.remove t.relays (initiator, seq) }) o

-- an ack for another member is passed on while the helper knows whom it helps
abbrev pub ack_passed_on : Setup → Key → ℕ → ℕ → Effect → Effect
ack_passed_on s k initiator seq o =
    if set.contains o.state.relays (initiator, seq) then ack_sent s k initiator initiator seq (without_relay initiator seq o) else o

-- an ack reaches the initiator, or is passed on to it in time
abbrev pub single_ack_taken : Setup → Key → ℕ → ℕ → Effect → Effect
single_ack_taken s k initiator seq o = if nat_eq initiator k.to then single_answered s k seq o else ack_passed_on s k initiator seq o

-- An ack, then what rides on it.
unfoldable pub single_ack_heard : Setup → Key → ℕ → ℕ → List Update → Effect → Effect
single_ack_heard s k initiator seq updates o = all_applied s Aloud k updates (single_ack_taken s k initiator seq o)

-- The nack is due: the helper forgets whom it helps, and tells the initiator with LHA-Probe alone.
unfoldable pub help_over : Setup → Key → ℕ → ℕ → Effect → Effect
help_over s k initiator seq o = if s.lifeguard.probe then nack_due s k initiator seq o else without_relay initiator seq o
