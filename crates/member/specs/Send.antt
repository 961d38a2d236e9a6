-- How messages are sent, and what rides on them.
use Rattle.std.specs.Prelude.{ℕ, nat_eq, length, if◌then◌else◌, List, [], ◌∷◌, Option, Some, None}
use Rattle.std.specs.Option.{option_map, is_none}
use Rattle.std.specs.FinMap.{get}
use Rattle.base.specs.declared.key.Key.{Key}
use Rattle.scenario.specs.Setup.{Setup, contact_of}
use Rattle.scenario.specs.Profile.{profile_of}
use Rattle.trace.specs.declared.row.What.{What}
use Rattle.trace.specs.declared.row.What.TheVariants as what
use Rattle.incarnation.specs.declared.Claim.{Claim}
use Rattle.incarnation.specs.declared.Claim.TheVariants.{Suspect}
use Rattle.incarnation.specs.declared.Update.{Update}
use Rattle.suspicion.specs.Suspicions.{first_accuser_of}
use Rattle.links.specs.Arrival.{arrival_of}
use Rattle.links.specs.Trips.{call_of, answer_of, kept_arrival_of}
use Rattle.streams.specs.Draw.{Words}
use Rattle.member.specs.declared.event_kind.EventKind.{EventKind}
use Rattle.member.specs.declared.event_kind.EventKind.TheVariants.{Join, Welcome, Ping, PingReq, Ack, Nack, Bye, Gossip, Call, Answer, Push, Pull}
use Rattle.member.specs.State.{State}
use Rattle.membership.specs.Table.{is_suspect}
use Rattle.member.specs.declared.riding.Bearer.{Bearer}
use Rattle.member.specs.declared.riding.Bearer.TheVariants as bearer
use Rattle.member.specs.Effects.{Effect, on_state, with_row, with_number, with_event}
use Rattle.member.specs.Blocks.{on_its_way}
use Rattle.member.specs.Riding.{riding_by, without_riding_by}
use Rattle.member.specs.Wholes.{whole_by}
unfoldable pub use Rattle.member.specs.Wholes.{whole_table}
unfoldable pub use Rattle.member.specs.Picks.{limit_of, carried, with_picks}

-- a message arrives, or is lost: it takes a number all the same
abbrev pub sent_off : Setup → Key → ℕ → EventKind → Option ℕ → Effect → Effect
sent_off s k to content None o = on_state with_number o
sent_off s k to content (Some at) o = with_event s k at to content o

-- a message whose arrival is decided: a row records it
abbrev pub told_of : Setup → Key → What → ℕ → ℕ → EventKind → Option ℕ → Effect → Effect
told_of s k tells to value content arrival o = sent_off s k to content arrival (with_row k tells (Some to) value (is_none arrival) o)

-- A message whose arrival is decided, and the words that this leaves.
unfoldable pub posted : Setup → Key → What → ℕ → ℕ → EventKind → Option ℕ × Words → Effect → Effect
posted s k tells to value content arrival o = told_of s k tells to value content arrival.0 (on_state (λ t. record t { words = arrival.1 }) o)

-- A message over a link: by the member's words is decided whether and when it arrives.
abbrev pub sent : Setup → Key → What → ℕ → ℕ → EventKind → Effect → Effect
sent s k tells to value content o = posted s k tells to value content (on_its_way (profile_of s) s k to (arrival_of s k.to to) o.state.words) o

-- the suspicion of a member, if the table holds it as suspected, as its first accuser raised it
abbrev pub suspicion_told : State → ℕ → Option (Claim × ℕ) → Option Update
suspicion_told t to None = None
suspicion_told t to (Some held) =
    if is_suspect held.0
    then option_map (λ first. record { subject = to; claim = Suspect; inc = held.1; accuser = first }) (first_accuser_of t.suspicions to)
    else None

-- Lifeguard's Buddy System: a ping to a member that is suspected carries the suspicion.
unfoldable pub buddy_of : Setup → ℕ → State → Option Update
buddy_of s to t = if s.lifeguard.buddy then suspicion_told t to (get t.table to) else None

-- what rides on a message that is sent now
abbrev pub riding : Setup → Key → Bearer → Effect → List Update
riding s k bearer o = riding_by (profile_of s) s k.to bearer o.state

-- what that leaves
abbrev pub without_riding : Setup → Key → Bearer → Effect → Effect
without_riding s k bearer o = on_state (without_riding_by (profile_of s) s k.to bearer) o

-- A ping on behalf of its initiator (SWIM, section 3.1).
unfoldable pub ping_sent : Setup → Key → ℕ → ℕ → ℕ → Effect → Effect
ping_sent s k to initiator seq o =
    let buddy = buddy_of s to o.state in
    sent s k what.Ping to seq (Ping initiator seq (carried s buddy o.state)) (on_state (with_picks s buddy) o)

-- The request to a helper to ping the target (SWIM, section 3.1).
unfoldable pub ping_req_sent : Setup → Key → ℕ → ℕ → ℕ → Effect → Effect
ping_req_sent s k target seq to o = sent s k what.PingReq to seq (PingReq target seq (riding s k (bearer.PingReq target) o)) (without_riding s k (bearer.PingReq target) o)

-- An ack on its way to the initiator of the probe (SWIM, section 3.1).
unfoldable pub ack_sent : Setup → Key → ℕ → ℕ → ℕ → Effect → Effect
ack_sent s k to initiator seq o = sent s k what.Ack to seq (Ack initiator seq (riding s k bearer.Ack o)) (without_riding s k bearer.Ack o)

-- The ack to a ping, on its way to the initiator of the probe: by memberlist 0.5.0's rules a packet with Serf's coordinate has less room for updates.
unfoldable pub pings_ack_sent : Setup → Key → ℕ → ℕ → ℕ → Effect → Effect
pings_ack_sent s k to initiator seq o =
    sent s k what.Ack to seq (Ack initiator seq (riding s k bearer.PingsAck o)) (without_riding s k bearer.PingsAck o)

-- A helper's nack: the target has not answered in time (LHA-Probe). Nothing rides on it.
unfoldable pub nack_sent : Setup → Key → ℕ → ℕ → Effect → Effect
nack_sent s k to seq o = sent s k what.Nack to seq (Nack seq) o

abbrev pub join_sent_to : Setup → Key → Option ℕ → Effect → Effect
join_sent_to s k None o = o
join_sent_to s k (Some contact) o = sent s k what.Join contact 0 Join o

-- A member that starts late asks its contact to let it join. Each such member has a contact.
unfoldable pub join_sent : Setup → Key → Effect → Effect
join_sent s k o = join_sent_to s k (contact_of s k.to) o

-- The contact answers by all that it knows.
unfoldable pub welcome_sent : Setup → Key → ℕ → Effect → Effect
welcome_sent s k to o = sent s k what.Welcome to 0 (Welcome (whole_table k.to o.state.incarnation o.state.table)) o

-- A member that leaves says bye. Nothing rides on it.
unfoldable pub bye_sent : Setup → Key → ℕ → Effect → Effect
bye_sent s k to o = sent s k what.Bye to 0 Bye o

-- messages to these members, one after another
unfoldable pub sent_to_each : (ℕ → Effect → Effect) → List ℕ → Effect → Effect
sent_to_each send [] o = o
sent_to_each send (to ∷ others) o = sent_to_each send others (send to o)

-- ---- what memberlist's rules add

-- updates by themselves, if there are any
abbrev pub news_sent : Setup → Key → ℕ → List Update → Effect → Effect
news_sent s k to updates o = if nat_eq (length updates) 0 then o else sent s k what.Gossip to 0 (Gossip updates) o

-- Gossip to one of those who are chosen. Where nothing is left to send the rest get nothing.
unfoldable pub gossip_sent : Setup → Key → ℕ → Effect → Effect
gossip_sent s k to o = news_sent s k to (riding s k bearer.Gossip o) (without_riding s k bearer.Gossip o)

-- A stream to a target that hasn't answered in time. Nothing rides on it.
unfoldable pub call_sent : Setup → Key → ℕ → ℕ → Effect → Effect
call_sent s k to seq o = posted s k what.Call to seq (Call seq) (on_its_way (profile_of s) s k to (call_of s k.to to) o.state.words) o

unfoldable pub answer_sent : Setup → Key → ℕ → ℕ → Effect → Effect
answer_sent s k to seq o = posted s k what.Answer to seq (Answer seq) (on_its_way (profile_of s) s k to (answer_of s k.to to) o.state.words) o

-- All that is known, and oneself.
unfoldable pub push_sent : Setup → Key → ℕ → Effect → Effect
push_sent s k to o =
    posted s k what.Push to 0 (Push (whole_by (profile_of s) k.to o.state)) (on_its_way (profile_of s) s k to (kept_arrival_of s k.to to) o.state.words) o

unfoldable pub pull_sent : Setup → Key → ℕ → Effect → Effect
pull_sent s k to o =
    posted s k what.Pull to 0 (Pull (whole_by (profile_of s) k.to o.state)) (on_its_way (profile_of s) s k to (kept_arrival_of s k.to to) o.state.words) o
