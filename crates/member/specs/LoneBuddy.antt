-- How pings are sent by memberlist 0.5.0's rules (state.go: probeNode, net.go: handleIndirectPing): the ping that begins a probe of a
-- member that is held as suspected tells it so, and nothing else; a helper's ping bears what any message bears.
use Rattle.std.specs.Prelude.{ℕ, if◌then◌else◌, [], ◌∷◌, Option, Some, None}
use Rattle.std.specs.FinMap.{get}
use Rattle.base.specs.declared.key.Key.{Key}
use Rattle.scenario.specs.Setup.{Setup}
use Rattle.trace.specs.declared.row.What.TheVariants as what
use Rattle.incarnation.specs.declared.Claim.{Claim}
use Rattle.incarnation.specs.declared.Claim.TheVariants.{Suspect}
use Rattle.incarnation.specs.declared.Update.{Update}
use Rattle.membership.specs.Table.{is_suspect}
use Rattle.member.specs.declared.event_kind.EventKind.TheVariants.{Ping}
use Rattle.member.specs.State.{State}
use Rattle.member.specs.Effects.{Effect}
use Rattle.member.specs.Send.{sent, riding, without_riding}
use Rattle.member.specs.declared.riding.Bearer.TheVariants as bearer

-- what a member claims of another that it holds as suspected, at the number at which it holds it
abbrev pub suspicion_held : ℕ → ℕ → Option (Claim × ℕ) → Option Update
suspicion_held me to None = None
suspicion_held me to (Some held) = if is_suspect held.0 then Some (record { subject = to; claim = Suspect; inc = held.1; accuser = me }) else None

-- Lifeguard's Buddy System, as memberlist has it: the prober itself is the accuser.
unfoldable pub lone_buddy_of : Setup → ℕ → ℕ → State → Option Update
lone_buddy_of s me to t = if s.lifeguard.buddy then suspicion_held me to (get t.table to) else None

-- A ping that bears what any message bears.
unfoldable pub plain_ping_sent : Setup → Key → ℕ → ℕ → ℕ → Effect → Effect
plain_ping_sent s k to initiator seq o = sent s k what.Ping to seq (Ping initiator seq (riding s k (bearer.Ping to) o)) (without_riding s k (bearer.Ping to) o)

-- a ping of one's own probe that bears this alone, where there is something: then nothing is picked
abbrev pub ping_with_lone : Setup → Key → ℕ → ℕ → Option Update → Effect → Effect
ping_with_lone s k to seq None o = plain_ping_sent s k to k.to seq o
ping_with_lone s k to seq (Some buddy) o = sent s k what.Ping to seq (Ping k.to seq (buddy ∷ [])) o

-- The ping with which a probe begins.
unfoldable pub probe_ping_sent : Setup → Key → ℕ → ℕ → Effect → Effect
probe_ping_sent s k to seq o = ping_with_lone s k to seq (lone_buddy_of s k.to to o.state) o
