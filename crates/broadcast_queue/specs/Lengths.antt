-- How many bytes a message takes as memberlist encodes it: msgpack with the names of fields, an address of 4 bytes, a port of 3, six versions.
use Rattle.std.specs.Prelude.{ℕ, ◌+◌, ◌-◌, ◌^◌, nat_lt, if◌then◌else◌}
use Rattle.incarnation.specs.declared.Claim.{Claim}
use Rattle.incarnation.specs.declared.Claim.TheVariants.{Alive}
use Rattle.broadcast_queue.specs.declared.lengths.Carrier.{Carrier}
use Rattle.broadcast_queue.specs.declared.lengths.Carrier.TheVariants.{Gossip, Ping, PingReq, Ack, AckWithCoordinate}

-- a number
abbrev pub number_bytes : ℕ → ℕ
number_bytes n = if nat_lt n 128 then 1 else if nat_lt n 256 then 2 else if nat_lt n 65536 then 3 else if nat_lt n (2 ^ 32) then 5 else 9

-- so many bytes of a name or of tags, with their length before them
abbrev pub text_bytes : ℕ → ℕ
text_bytes length = if nat_lt length 32 then length + 1 else length + 3

-- a claim with its number: Alive has its subject's name and tags, any other one the names of its subject and its accuser
abbrev pub message_bytes : Claim → ℕ → ℕ → ℕ → ℕ → ℕ
message_bytes Alive number subject accuser tags = 53 + number_bytes number + text_bytes subject + text_bytes tags
message_bytes _ number subject accuser tags = 24 + number_bytes number + text_bytes subject + text_bytes accuser

-- what a message takes of its packet before anything rides on it, with 5 for the sequence number. Names are given by their lengths.
abbrev pub carrier_bytes : Carrier → ℕ
carrier_bytes Gossip = 0
carrier_bytes (Ping receiver sender) = 59 + text_bytes receiver + text_bytes sender
carrier_bytes (PingReq target sender) = 85 + text_bytes target + text_bytes sender
carrier_bytes Ack = 22
carrier_bytes AckWithCoordinate = 154

-- the bytes that are left in a packet, of which two say how many messages it has
abbrev pub room_in : ℕ → Carrier → ℕ
room_in packet carrier = packet - (2 + carrier_bytes carrier)
