-- What rides on a message by memberlist 0.5.0's and Serf's rules (net.go: encodeAndSendMsg, state.go: gossip, queue.go: GetBroadcasts; Serf, delegate.go:
-- GetBroadcasts): first claims, out of the buffer or out of memberlist's queue, then intents, into the room that is left: so many updates, or so many bytes.
use Rattle.std.specs.Prelude.{ℕ, ◌+◌, ◌-◌, ◌&&◌, Bool, true, nat_eq, nat_le, if◌then◌else◌, length, List, [], ◌∷◌, ◌++◌, map, Option, Some, None}
use Rattle.std.specs.Option.{is_some}
use Rattle.std.specs.List.{list_any}
use Rattle.std.specs.FinMap.{contains_key, insert, len}
use Rattle.base.specs.declared.profile.Profile.{Profile}
use Rattle.base.specs.declared.profile.Profile.TheVariants.{Papers, Memberlist, Hashicorp}
use Rattle.scenario.specs.Setup.{Setup, name_of}
use Rattle.scenario.specs.declared.settings.Queue.{Queue}
use Rattle.incarnation.specs.declared.Update.{Update}
use Rattle.piggyback.specs.Picked.{picked, waiting, left_after, left_by_pick}
use Rattle.broadcast_queue.specs.Broadcasts.{after_pick, after_put}
use Rattle.broadcast_queue.specs.Items.{is_about, room_after, those_that_fit}
use Rattle.broadcast_queue.specs.Lengths.{message_bytes, room_in, text_bytes}
use Rattle.broadcast_queue.specs.declared.items.Measure.{Measure}
use Rattle.broadcast_queue.specs.declared.items.Measure.TheVariants.{Items, Bytes}
use Rattle.broadcast_queue.specs.declared.lengths.Carrier.{Carrier}
use Rattle.broadcast_queue.specs.declared.lengths.Carrier.TheVariants as carrier
use Rattle.member.specs.declared.riding.Bearer.{Bearer}
use Rattle.member.specs.declared.riding.Bearer.TheVariants.{Gossip, Ping, PingReq, Ack, PingsAck}
use Rattle.member.specs.State.{State}
use Rattle.member.specs.Picks.{limit_of, carried, with_picks}

-- ---- how much rides

-- the length of a member's name
abbrev pub name_length : Setup → ℕ → ℕ
name_length s m = length (name_of s m)

-- what a message takes of its packet itself: an ack to a ping has a coordinate where there is Serf
abbrev pub carrier_of : Setup → ℕ → Bearer → Carrier
carrier_of s me Gossip = carrier.Gossip
carrier_of s me (Ping to) = carrier.Ping (name_length s to) (name_length s me)
carrier_of s me (PingReq target) = carrier.PingReq (name_length s target) (name_length s me)
carrier_of s me Ack = carrier.Ack
carrier_of s me PingsAck = if is_some s.serf then carrier.AckWithCoordinate else carrier.Ack

-- in what is measured what rides on a message
abbrev pub measure_of : Option Queue → Measure
measure_of None = Items
measure_of (Some q) = if nat_eq q.packet 0 then Items else Bytes

-- how much may ride on a message of a member
abbrev pub room_of : Setup → ℕ → Bearer → Option Queue → ℕ
room_of s me bearer None = s.swim.carry
room_of s me bearer (Some q) = if nat_eq q.packet 0 then s.swim.carry else room_in q.packet (carrier_of s me bearer)

-- ---- claims

-- the claims that ride where there is so much room
abbrev pub claims_for : Setup → Option Queue → ℕ → State → List Update
claims_for s None room t = picked t.buffer room (limit_of s t) None
claims_for s (Some q) room t = map (λ it. it.update) (those_that_fit (measure_of (Some q)) room t.life.queue.items)

-- what taking them leaves
abbrev pub without_claims : Setup → Option Queue → ℕ → State → State
without_claims s None room t = record t { buffer = left_by_pick t.buffer room (limit_of s t) None }
without_claims s (Some q) room t =
    record t { life = record t.life { queue = after_pick true (those_that_fit (measure_of (Some q)) room t.life.queue.items) (limit_of s t) t.life.queue } }

-- the room that they leave
abbrev pub room_behind : Setup → Option Queue → Measure → ℕ → State → ℕ
room_behind s queue Items room t = room - length (claims_for s queue room t)
room_behind s queue Bytes room t = room_after room t.life.queue.items

-- ---- intents

-- the bytes of an intent
abbrev pub intent_bytes : Setup → Update → ℕ
intent_bytes s intent = 26 + text_bytes (name_length s intent.subject)

-- These are gone through once, and each that fits into the room left rides.
abbrev pub intents_that_fit : Setup → ℕ → List Update → List Update
intents_that_fit s room [] = []
intents_that_fit s room (intent ∷ intents) =
    if nat_le (intent_bytes s intent) room
    then intent ∷ intents_that_fit s (room - intent_bytes s intent) intents
    else intents_that_fit s room intents

-- the intents that ride where there is so much room
abbrev pub intents_for : Setup → Measure → ℕ → State → List Update
intents_for s Items room t = picked t.life.intents room (limit_of s t) None
intents_for s Bytes room t = intents_that_fit s room (waiting t.life.intents (limit_of s t))

-- what a message with these leaves of them
abbrev pub without_intents : Setup → List Update → State → State
without_intents s intents t = record t { life = record t.life { intents = left_after t.life.intents intents (limit_of s t) } }

-- ---- both

-- the intents that ride behind the claims
abbrev pub intents_behind : Setup → ℕ → Bearer → State → List Update
intents_behind s me bearer t =
    let measure = measure_of s.queue in
    intents_for s measure (room_behind s s.queue measure (room_of s me bearer s.queue) t) t

unfoldable pub both_for : Setup → ℕ → Bearer → State → List Update
both_for s me bearer t = claims_for s s.queue (room_of s me bearer s.queue) t ++ intents_behind s me bearer t

unfoldable pub without_both : Setup → ℕ → Bearer → State → State
without_both s me bearer t =
    without_intents s (intents_behind s me bearer t) (without_claims s s.queue (room_of s me bearer s.queue) t)

-- what rides on a message of a member, by the rules of a profile
abbrev pub riding_by : Profile → Setup → ℕ → Bearer → State → List Update
riding_by Papers s me bearer t = carried s None t
riding_by Memberlist s me bearer t = carried s None t
riding_by Hashicorp s me bearer t = both_for s me bearer t

-- what that leaves
abbrev pub without_riding_by : Profile → Setup → ℕ → Bearer → State → State
without_riding_by Papers s me bearer t = with_picks s None t
without_riding_by Memberlist s me bearer t = with_picks s None t
without_riding_by Hashicorp s me bearer t = without_both s me bearer t

-- ---- putting

-- the bytes of a claim's message
abbrev pub claim_bytes : Setup → Queue → Update → ℕ
claim_bytes s q u = message_bytes u.claim u.inc (name_length s u.subject) (name_length s u.accuser) q.meta

-- an update is put where members keep what is still to be sent: in the buffer, or in memberlist's queue
abbrev pub put_up : Setup → Option Queue → Update → State → State
put_up s None u t = record t { buffer = insert t.buffer u.subject (u, 0) }
put_up s (Some q) u t = record t { life = record t.life { queue = after_put true u (claim_bytes s q u) t.life.queue } }

-- whether no claim is left to send
abbrev pub has_no_claims : Option Queue → State → Bool
has_no_claims None t = nat_eq (len t.buffer) 0
has_no_claims (Some q) t = nat_eq (length t.life.queue.items) 0

-- whether nothing is left to send
abbrev pub is_all_told : Setup → State → Bool
is_all_told s t = has_no_claims s.queue t && nat_eq (len t.life.intents) 0

-- whether a claim about a member is still to be sent
abbrev pub is_claim_held : Option Queue → ℕ → State → Bool
is_claim_held None subject t = contains_key t.buffer subject
is_claim_held (Some q) subject t = list_any (is_about subject) t.life.queue.items
