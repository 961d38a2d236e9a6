-- What a scenario means, in lines.
use Rattle.std.specs.Prelude.{ℕ, Bool, ◌+◌, ◌*◌, ◌==◌, nat_eq, nat_le, if◌then◌else◌, List, [], ◌∷◌, ◌++◌, codes, decimal, flat_map, Option, Some, None}
use Rattle.std.specs.List.{range_with_len}
use Rattle.std.specs.Option.{option_map_or}
use Rattle.base.specs.declared.profile.Profile.{Profile}
use Rattle.base.specs.declared.profile.Profile.TheVariants.{Papers, Memberlist, Hashicorp}
use Rattle.scenario.specs.Profile.{profile_of}
use Rattle.scenario.specs.Setup.{Setup, member_count, name_of, group_at, start_of, contact_of, script_of}
use Rattle.scenario.specs.declared.settings.Link.{Link}
use Rattle.scenario.specs.declared.settings.Path.{Path}
use Rattle.scenario.specs.declared.settings.Slow.{Slow}
use Rattle.scenario.specs.declared.settings.Leave.{Leave}
use Rattle.scenario.specs.declared.settings.Cut.{Cut}
use Rattle.scenario.specs.declared.settings.Gossip.{Gossip}
use Rattle.scenario.specs.declared.settings.StreamTimes.{StreamTimes}
use Rattle.scenario.specs.declared.settings.Queue.{Queue}
use Rattle.scenario.specs.declared.settings.DialTimes.{DialTimes}
use Rattle.scenario.specs.declared.settings.Serf.{Serf}
use Rattle.scenario.specs.declared.settings.Pause.{Pause}
use Rattle.scenario.specs.declared.settings.Restart.{Restart}
use Rattle.scenario.specs.declared.script.ScriptKind.{ScriptKind}
use Rattle.scenario.specs.declared.script.ScriptKind.TheVariants as kind
use Rattle.scenario.specs.declared.script.ScriptEvent.{ScriptEvent}
use Rattle.suspicion.specs.Times.{most_accusers, min_timeout, timeout}
use Rattle.suspicion.specs.Settings.{terms_of}
use Rattle.lifeguard.specs.NackDelay.{nack_delay_of}
use Rattle.reports.specs.Text.{line, count_line}
use Rattle.meaning.specs.Each.{made_of_each}
use Rattle.meaning.specs.Groups.{groups_of, size_of, first_of_group, group_name, is_hidden}
use Rattle.meaning.specs.News.{message_limit}
use Rattle.meaning.specs.Quiet.{quiet_of}
use Rattle.meaning.specs.declared.quiet.Quiet.{Quiet}
use Rattle.meaning.specs.Times.{worst_health, pace_at}

-- what a link does
abbrev pub link_fields : Link → List (List ℕ)
link_fields l = codes "delay" ∷ decimal l.delay ∷ codes "jitter" ∷ decimal l.jitter ∷ codes "loss" ∷ decimal l.loss ∷ []

-- whom the members of a group ask to let them join, where they start later
unfoldable pub contact_text : Setup → Option ℕ → List ℕ
contact_text s contact = option_map_or (λ m. codes " contact " ++ name_of s m) contact []

-- the group of this member: its name, how many members it has, and when these start
unfoldable pub group_words : Setup → ℕ → List ℕ
group_words s m =
    codes "group " ++ group_name s (group_at s.groups m) ++ codes " members " ++ decimal (size_of (groups_of s) (group_at s.groups m)) ++ codes " start " ++ decimal (start_of s m)

-- its line
unfoldable pub group_text : Setup → ℕ → List ℕ
group_text s m = group_words s m ++ contact_text s (contact_of s m) ++ codes "\n"

-- the line of a group, at its first member
abbrev pub group_line : Setup → ℕ → List ℕ
group_line s m = if nat_eq (first_of_group (groups_of s) (group_at s.groups m)) m then group_text s m else []

-- how many members there are, and their groups
unfoldable pub member_lines : Setup → List ℕ
member_lines s = count_line (codes "members") (member_count s) ++ flat_map (group_line s) (range_with_len 0 (member_count s))

-- the link of all pairs that no path names
unfoldable pub link_line : Setup → List ℕ
link_line s = line (codes "link" ∷ link_fields s.link)

-- a path by its number in the text, from 1: between which groups, and what its link does
unfoldable pub path_text : Setup → ℕ → Path → List ℕ
path_text s k p = line (codes "path" ∷ decimal (k + 1) ∷ group_name s p.from ∷ group_name s p.to ∷ link_fields p.link)

-- a path that decides for its groups
abbrev pub path_line : Setup → ℕ → Path → List ℕ
path_line s k p = if is_hidden s.paths k p then [] else path_text s k p

unfoldable pub path_lines : Setup → List ℕ
path_lines s = made_of_each (path_line s) s.paths

-- the length of a window and the greatest round trip, where there are two members
unfoldable pub trip_lines : Option ℕ → ℕ → List ℕ
trip_lines None trip = []
trip_lines (Some window) trip = count_line (codes "window") window ++ count_line (codes "round-trip") trip

-- a least and a greatest time of suspicions
unfoldable pub bounds_line : ℕ → ℕ → List ℕ
bounds_line least greatest = line (codes "suspicion" ∷ codes "least" ∷ decimal least ∷ codes "greatest" ∷ decimal greatest ∷ [])

-- the least and the greatest time of a suspicion
unfoldable pub suspicion_line : Setup → List ℕ
suspicion_line s = bounds_line (min_timeout (terms_of s) (member_count s)) (timeout (terms_of s) (member_count s) 0)

-- how long a suspicion lasts with so many further accusers
unfoldable pub accusers_line : Setup → ℕ → List ℕ
accusers_line s c = line (codes "accusers" ∷ decimal c ∷ codes "ticks" ∷ decimal (timeout (terms_of s) (member_count s) c) ∷ [])

-- a line for each number of them that counts
unfoldable pub accusers_lines : Setup → List ℕ
accusers_lines s = flat_map (accusers_line s) (range_with_len 0 (most_accusers (terms_of s) (member_count s) + 1))

-- period and timeout of a member whose health counter stands so
unfoldable pub health_line : Setup → ℕ → List ℕ
health_line s h = line (codes "health" ∷ decimal h ∷ codes "period" ∷ decimal (pace_at s h).period ∷ codes "timeout" ∷ decimal (pace_at s h).timeout ∷ [])

unfoldable pub health_lines : Setup → List ℕ
health_lines s = flat_map (health_line s) (range_with_len 0 (worst_health s + 1))

-- after how long a helper says that it has no answer; without LHA-Probe none says so
unfoldable pub nack_line : Setup → List ℕ
nack_line s = count_line (codes "nack") (nack_delay_of s.lifeguard.nack_percent s.swim.timeout)

-- how far an update spreads, in these numbers, the last of which has this word
unfoldable pub news_words : ℕ → ℕ → List ℕ → ℕ → List ℕ
news_words limit all word room = line (codes "news" ∷ codes "messages" ∷ decimal limit ∷ codes "all" ∷ decimal all ∷ word ∷ decimal room ∷ [])

-- a packet of a queue has so many bytes, or a message so many updates
abbrev pub news_by : ℕ → ℕ → ℕ → ℕ → List ℕ
news_by limit all carry packet = if packet == 0 then news_words limit all (codes "carry") carry else news_words limit all (codes "packet") packet

-- the bytes of a packet; 0 where messages aren't filled by bytes
abbrev pub packet_of : Setup → ℕ
packet_of s = option_map_or (λ (q : Queue). q.packet) s.queue 0

-- on how many messages of a member its news rides at the most, on how many of all members, and how many ride on one, or how large one is
unfoldable pub news_line : Setup → List ℕ
news_line s = news_by (message_limit s) (message_limit s * member_count s) s.swim.carry (packet_of s)

-- how members gossip
unfoldable pub gossip_text : Gossip → List ℕ
gossip_text g =
    line (codes "gossip" ∷ codes "interval" ∷ decimal g.interval ∷ codes "nodes" ∷ decimal g.nodes ∷ codes "dead" ∷ decimal g.dead ∷ codes "push" ∷ decimal g.push ∷ [])

-- the same, where they do
abbrev pub gossip_line : Setup → List ℕ
gossip_line s = option_map_or gossip_text s.gossip []

-- how packets are filled from a queue
unfoldable pub queue_text : Queue → List ℕ
queue_text q = line (codes "queue" ∷ codes "packet" ∷ decimal q.packet ∷ codes "meta" ∷ decimal q.meta ∷ [])

-- the same, where there is one
abbrev pub queue_line : Setup → List ℕ
queue_line s = option_map_or queue_text s.queue []

-- whether a ping that goes unanswered is followed by a call
unfoldable pub fallback_line : Bool → List ℕ
fallback_line is_on = line (codes "fallback" ∷ (if is_on then codes "on" else codes "off") ∷ [])

-- how a stream sends again what was lost
unfoldable pub stream_line : StreamTimes → List ℕ
stream_line t = line (codes "stream" ∷ codes "connect" ∷ decimal t.connect ∷ codes "again" ∷ decimal t.again ∷ [])

-- how long a dial may take, and how long who starts again waits before the next one
unfoldable pub dial_line : DialTimes → List ℕ
dial_line t = line (codes "dial" ∷ codes "limit" ∷ decimal t.limit ∷ codes "retry" ∷ decimal t.retry ∷ [])

-- how members leave and reconnect as Serf's do
unfoldable pub serf_text : Serf → List ℕ
serf_text f = line (codes "serf" ∷ codes "reconnect" ∷ decimal f.reconnect ∷ codes "reap" ∷ decimal f.reap ∷ codes "linger" ∷ decimal f.linger ∷ [])

-- the same, where they do
abbrev pub serf_line : Setup → List ℕ
serf_line s = option_map_or serf_text s.serf []

-- members call by memberlist's rules alone
unfoldable pub memberlist_lines : Setup → List ℕ
memberlist_lines s = fallback_line s.swim.fallback ++ stream_line s.stream

-- dials have times of their own since version 4
unfoldable pub hashicorp_lines : Setup → List ℕ
hashicorp_lines s = memberlist_lines s ++ dial_line s.dial ++ serf_line s

abbrev pub call_lines_by : Profile → Setup → List ℕ
call_lines_by Papers s = []
call_lines_by Memberlist s = memberlist_lines s
call_lines_by Hashicorp s = hashicorp_lines s

abbrev pub call_lines : Setup → List ℕ
call_lines s = call_lines_by (profile_of s) s

-- who goes and when
unfoldable pub departure_text : Setup → List ℕ → ℕ → ℕ → List ℕ
departure_text s word m at = line (word ∷ name_of s m ∷ decimal at ∷ [])

-- who goes by the end
abbrev pub departure_line : Setup → List ℕ → ℕ → ℕ → List ℕ
departure_line s word m at = if nat_le at s.end then departure_text s word m at else []

-- who crashes and when, where that is what happens
abbrev pub crash_by : ScriptKind → Setup → ℕ → ℕ → List ℕ
crash_by kind.Crash s m at = departure_line s (codes "crash") m at
crash_by kind.Leave s m at = []
crash_by (kind.Restart contact) s m at = []

abbrev pub crash_line : Setup → ScriptEvent → List ℕ
crash_line s e = crash_by e.kind s e.member e.at

-- the crashes of a member, in the order of moments
abbrev pub crash_lines : Setup → ℕ → List ℕ
crash_lines s m = flat_map (crash_line s) (script_of s m)

-- all crashes, by the members' numbers
abbrev pub all_crash_lines : Setup → List ℕ
all_crash_lines s = flat_map (crash_lines s) (range_with_len 0 (member_count s))

abbrev pub leave_line : Setup → Leave → List ℕ
leave_line s l = departure_line s (codes "leave") l.member l.at

-- who starts again and when
unfoldable pub restart_words : Setup → Restart → List ℕ
restart_words s r = codes "restart " ++ name_of s r.member ++ codes " " ++ decimal r.at

-- its line
unfoldable pub restart_text : Setup → Restart → List ℕ
restart_text s r = restart_words s r ++ contact_text s r.contact ++ codes "\n"

-- who starts again by the end
abbrev pub restart_line : Setup → Restart → List ℕ
restart_line s r = if nat_le r.at s.end then restart_text s r else []

-- who is slow when, and by how much
unfoldable pub slow_text : Setup → Slow → List ℕ
slow_text s e = line (codes "slow" ∷ name_of s e.member ∷ codes "from" ∷ decimal e.from ∷ codes "until" ∷ decimal e.until ∷ codes "extra" ∷ decimal e.extra ∷ [])

abbrev pub slow_line : Setup → Slow → List ℕ
slow_line s e = if nat_le e.from s.end then slow_text s e else []

-- between which groups the link is cut, and when
unfoldable pub cut_text : Setup → Cut → List ℕ
cut_text s c = line (codes "cut" ∷ group_name s c.from ∷ group_name s c.to ∷ codes "from" ∷ decimal c.at ∷ codes "until" ∷ decimal c.until ∷ [])

abbrev pub cut_line : Setup → Cut → List ℕ
cut_line s c = if nat_le c.at s.end then cut_text s c else []

-- who is paused, or blocked, when
unfoldable pub pause_text : Setup → List ℕ → Pause → List ℕ
pause_text s word p = line (word ∷ name_of s p.member ∷ codes "from" ∷ decimal p.from ∷ codes "until" ∷ decimal p.until ∷ [])

abbrev pub pause_line : Setup → List ℕ → Pause → List ℕ
pause_line s word p = if nat_le p.from s.end then pause_text s word p else []

-- what of the script happens up to the end
unfoldable pub script_lines : Setup → List ℕ
script_lines s =
    all_crash_lines s ++ flat_map (leave_line s) s.leaves ++ flat_map (restart_line s) s.restarts
    ++ flat_map (slow_line s) s.slows ++ flat_map (cut_line s) s.cuts ++ flat_map (pause_line s (codes "pause")) s.pauses ++ flat_map (pause_line s (codes "block")) s.blocks

-- how many messages a quiet cluster sends in a period, and in a thousand ticks
unfoldable pub rate_line : Quiet → List ℕ
rate_line q = line (codes "quiet" ∷ codes "period" ∷ decimal q.messages_a_period ∷ codes "second" ∷ decimal q.messages_a_second ∷ [])

-- how many messages it sends up to the end, and how large its trace is
unfoldable pub cost_line : Quiet → List ℕ
cost_line q = line (codes "quiet" ∷ codes "messages" ∷ decimal q.messages ∷ codes "rows" ∷ decimal q.rows ∷ codes "bytes" ∷ decimal q.bytes ∷ [])

unfoldable pub quiet_lines : Setup → List ℕ
quiet_lines s = rate_line (quiet_of s) ++ cost_line (quiet_of s)

-- the members, their links, and how long answers take
unfoldable pub cluster_lines : Setup → Option ℕ → ℕ → List ℕ
cluster_lines s window trip = member_lines s ++ link_line s ++ path_lines s ++ trip_lines window trip

-- the times of the protocol among all members
unfoldable pub time_lines : Setup → List ℕ
time_lines s = suspicion_line s ++ accusers_lines s ++ health_lines s ++ nack_line s ++ news_line s ++ gossip_line s ++ queue_line s ++ call_lines s
