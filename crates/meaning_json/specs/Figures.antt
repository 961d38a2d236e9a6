-- What a scenario means, as JSON. A member of an object stands behind those that were put before it; where it is in the text goes by its key.
use Rattle.std.specs.Prelude.{ℕ, Bool, ◌+◌, ◌==◌, nat_eq, if◌then◌else◌, List, [], ◌∷◌, codes, flat_map, Option}
use Rattle.std.specs.List.{range_with_len}
use Rattle.std.specs.Option.{option_map_or}
use Rattle.base.specs.declared.profile.Profile.{Profile}
use Rattle.base.specs.declared.profile.Profile.TheVariants.{Papers, Memberlist, Hashicorp}
use Rattle.scenario.specs.Profile.{profile_of}
use Rattle.scenario.specs.Setup.{Setup, member_count, name_of, group_at, start_of, contact_of}
use Rattle.scenario.specs.declared.settings.Link.{Link}
use Rattle.scenario.specs.declared.settings.Path.{Path}
use Rattle.scenario.specs.declared.settings.Gossip.{Gossip}
use Rattle.scenario.specs.declared.settings.StreamTimes.{StreamTimes}
use Rattle.scenario.specs.declared.settings.Queue.{Queue}
use Rattle.scenario.specs.declared.settings.DialTimes.{DialTimes}
use Rattle.scenario.specs.declared.settings.Serf.{Serf}
use Rattle.serde_json.specs.Data.{Data, null, boolean, number, unsigned, string, array, object, put, no_members}
use Rattle.serde_json.specs.View.{items_of}
use Rattle.suspicion.specs.Times.{most_accusers, min_timeout, timeout}
use Rattle.suspicion.specs.Settings.{terms_of}
use Rattle.lifeguard.specs.NackDelay.{nack_delay_of}
use Rattle.meaning.specs.Each.{made_of_each}
use Rattle.meaning.specs.Groups.{groups_of, size_of, first_of_group, group_name, is_hidden}
use Rattle.meaning.specs.News.{message_limit}
use Rattle.meaning.specs.Quiet.{quiet_of}
use Rattle.meaning.specs.Times.{worst_health, pace_at}

abbrev pub whole : ℕ → Data
whole n = number (unsigned n)

-- a number, or null where there is none
abbrev pub whole_or_null : Option ℕ → Data
whole_or_null n = option_map_or whole n null

-- a list of values
abbrev pub list_of : List Data → Data
list_of values = array (items_of values)

-- what a link does
unfoldable pub link_data : Link → Data
link_data l = object (put (codes "loss") (whole l.loss) (put (codes "jitter") (whole l.jitter) (put (codes "delay") (whole l.delay) no_members)))

-- whom the members of a group ask to let them join
abbrev pub contact_data : Setup → Option ℕ → Data
contact_data s contact = option_map_or (λ m. string (name_of s m)) contact null

-- the group of this member
unfoldable pub group_data : Setup → ℕ → Data
group_data s m =
    object (put (codes "contact") (contact_data s (contact_of s m)) (put (codes "start") (whole (start_of s m))
    (put (codes "members") (whole (size_of (groups_of s) (group_at s.groups m))) (put (codes "name") (string (group_name s (group_at s.groups m))) no_members))))

-- a group, at its first member
abbrev pub group_item : Setup → ℕ → List Data
group_item s m = if nat_eq (first_of_group (groups_of s) (group_at s.groups m)) m then group_data s m ∷ [] else []

abbrev pub groups_data : Setup → Data
groups_data s = list_of (flat_map (group_item s) (range_with_len 0 (member_count s)))

-- a path by its number in the text, from 1: between which groups, and what its link does
unfoldable pub path_data : Setup → ℕ → Path → Data
path_data s k p =
    object (put (codes "link") (link_data p.link) (put (codes "to") (string (group_name s p.to)) (put (codes "from") (string (group_name s p.from))
    (put (codes "number") (whole (k + 1)) no_members))))

-- a path that decides for its groups
abbrev pub path_item : Setup → ℕ → Path → List Data
path_item s k p = if is_hidden s.paths k p then [] else path_data s k p ∷ []

abbrev pub paths_data : Setup → Data
paths_data s = list_of (made_of_each (path_item s) s.paths)

-- how long a suspicion lasts with so many further accusers
abbrev pub suspicion_item : Setup → ℕ → List Data
suspicion_item s c = whole (timeout (terms_of s) (member_count s) c) ∷ []

-- the same for each number of them that counts, from 0
abbrev pub suspicions_data : Setup → Data
suspicions_data s = list_of (flat_map (suspicion_item s) (range_with_len 0 (most_accusers (terms_of s) (member_count s) + 1)))

-- period and timeout of a member whose health counter stands so
unfoldable pub pace_data : Setup → ℕ → Data
pace_data s h = object (put (codes "timeout") (whole (pace_at s h).timeout) (put (codes "period") (whole (pace_at s h).period) no_members))

abbrev pub pace_item : Setup → ℕ → List Data
pace_item s h = pace_data s h ∷ []

abbrev pub health_data : Setup → Data
health_data s = list_of (flat_map (pace_item s) (range_with_len 0 (worst_health s + 1)))

-- how a stream sends again what was lost
unfoldable pub stream_data : StreamTimes → Data
stream_data t = object (put (codes "again") (whole t.again) (put (codes "connect") (whole t.connect) no_members))

-- these times
unfoldable pub times_with : ℕ → Data → Data → ℕ → Data
times_with least suspicions health nack =
    object (put (codes "nack_delay") (whole nack) (put (codes "health") health (put (codes "suspicions") suspicions (put (codes "least_suspicion") (whole least) no_members))))

-- the same, whether members call, and how a stream sends again
unfoldable pub called_with : ℕ → Data → Data → ℕ → Bool → Data → Data
called_with least suspicions health nack fallback stream =
    object (put (codes "stream") stream (put (codes "fallback") (boolean fallback) (put (codes "nack_delay") (whole nack) (put (codes "health") health
    (put (codes "suspicions") suspicions (put (codes "least_suspicion") (whole least) no_members))))))

-- how long a dial may take, and how long who starts again waits before the next one
unfoldable pub dial_data : DialTimes → Data
dial_data t = object (put (codes "retry") (whole t.retry) (put (codes "limit") (whole t.limit) no_members))

-- how members leave and reconnect as Serf's do
unfoldable pub serf_data : Serf → Data
serf_data f = object (put (codes "linger") (whole f.linger) (put (codes "reap") (whole f.reap) (put (codes "reconnect") (whole f.reconnect) no_members)))

-- null where they don't
abbrev pub serf_or_null : Option Serf → Data
serf_or_null serf = option_map_or serf_data serf null

-- the same, how long a dial may take, and what Serf's members do
unfoldable pub dialed_with : ℕ → Data → Data → ℕ → Bool → Data → Data → Data → Data
dialed_with least suspicions health nack fallback stream dial serf =
    object (put (codes "serf") serf (put (codes "dial") dial (put (codes "stream") stream (put (codes "fallback") (boolean fallback) (put (codes "nack_delay") (whole nack)
    (put (codes "health") health (put (codes "suspicions") suspicions (put (codes "least_suspicion") (whole least) no_members))))))))

-- members call by memberlist's rules alone; dials have times of their own since version 4
abbrev pub times_by : Profile → ℕ → ℕ → Setup → Data
times_by Papers least nack s = times_with least (suspicions_data s) (health_data s) nack
times_by Memberlist least nack s = called_with least (suspicions_data s) (health_data s) nack s.swim.fallback (stream_data s.stream)
times_by Hashicorp least nack s =
    dialed_with least (suspicions_data s) (health_data s) nack s.swim.fallback (stream_data s.stream) (dial_data s.dial) (serf_or_null s.serf)

-- the times of the protocol among all members
abbrev pub times_data : Setup → Data
times_data s = times_by (profile_of s) (min_timeout (terms_of s) (member_count s)) (nack_delay_of s.lifeguard.nack_percent s.swim.timeout) s

-- on how many messages of a member its news rides at the most, and how many ride on one
unfoldable pub ridden_data : ℕ → ℕ → Data
ridden_data limit carry = object (put (codes "carry") (whole carry) (put (codes "limit") (whole limit) no_members))

-- how members gossip
unfoldable pub gossip_data : Gossip → Data
gossip_data g =
    object (put (codes "push") (whole g.push) (put (codes "dead") (whole g.dead) (put (codes "nodes") (whole g.nodes) (put (codes "interval") (whole g.interval) no_members))))

-- the same, and how members gossip
unfoldable pub gossiped_data : ℕ → ℕ → Gossip → Data
gossiped_data limit carry g =
    object (put (codes "gossip") (gossip_data g) (put (codes "carry") (whole carry) (put (codes "limit") (whole limit) no_members)))

-- how packets are filled from a queue
unfoldable pub queue_data : Queue → Data
queue_data q = object (put (codes "meta") (whole q.meta) (put (codes "packet") (whole q.packet) no_members))

-- what a packet holds: so many bytes, or where these are 0 so many updates
abbrev pub room_key : ℕ → List ℕ
room_key packet = if packet == 0 then codes "carry" else codes "packet"

abbrev pub room_of : ℕ → ℕ → ℕ
room_of carry packet = if packet == 0 then carry else packet

-- how members gossip, what a packet holds, and how it is filled
unfoldable pub queued_data : ℕ → ℕ → Gossip → Queue → Data
queued_data limit carry g q =
    object (put (room_key q.packet) (whole (room_of carry q.packet)) (put (codes "queue") (queue_data q) (put (codes "gossip") (gossip_data g) (put (codes "limit") (whole limit) no_members))))

-- the same, where packets are filled from one
abbrev pub gossiped_by : ℕ → ℕ → Option Queue → Gossip → Data
gossiped_by limit carry queue g = option_map_or (queued_data limit carry g) queue (gossiped_data limit carry g)

-- how far an update spreads
abbrev pub news_data : Setup → Data
news_data s = option_map_or (gossiped_by (message_limit s) s.swim.carry s.queue) s.gossip (ridden_data (message_limit s) s.swim.carry)

-- what a quiet run costs
unfoldable pub quiet_data : Setup → Data
quiet_data s =
    object (put (codes "bytes") (whole (quiet_of s).bytes) (put (codes "rows") (whole (quiet_of s).rows) (put (codes "messages") (whole (quiet_of s).messages)
    (put (codes "messages_a_second") (whole (quiet_of s).messages_a_second) (put (codes "messages_a_period") (whole (quiet_of s).messages_a_period) no_members)))))
