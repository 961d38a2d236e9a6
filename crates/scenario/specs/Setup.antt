-- A scenario as its text says it, and what is said of its members.
use Rattle.std.specs.Prelude.{◌≡◌, ℕ, ◌<◌, ◌≤◌, ◌^◌, ◌+◌, ◌-◌, ◌≢◌, Bool, true, false, not, ◌&&◌, if◌then◌else◌, max, nat_lt, nat_le, nat_eq, List, [], ◌∷◌, ◌++◌, map, filter, find, sum_by, flat_map, codes, decimal, Option, Some, None, IfSome, option_map, option_and_then, unwrap_or, slice_get}
use Rattle.std.specs.List.{range_with_len, list_any, list_all, AllByRecursion}
use Rattle.std.specs.Option.{is_some, option_map_or}
use Rattle.schema.specs.declared.schema.Version.{Version}
use Rattle.schema.specs.declared.schema.Version.TheVariants.{One, Two, Three, Four}
use Rattle.scenario.specs.GroupNames.{is_name_of}
use Rattle.scenario.specs.Script.{entries_in, script_in, asked_by}
use Rattle.scenario.specs.declared.settings.Swim.{Swim}
use Rattle.scenario.specs.declared.settings.Suspicion.{Suspicion}
use Rattle.scenario.specs.declared.settings.Lifeguard.{Lifeguard}
use Rattle.scenario.specs.declared.settings.Link.{Link}
use Rattle.scenario.specs.declared.settings.Path.{Path}
use Rattle.scenario.specs.declared.settings.Slow.{Slow}
use Rattle.scenario.specs.declared.settings.Crash.{Crash}
use Rattle.scenario.specs.declared.settings.Leave.{Leave}
use Rattle.scenario.specs.declared.settings.Cut.{Cut}
use Rattle.scenario.specs.declared.settings.Gossip.{Gossip}
use Rattle.scenario.specs.declared.settings.StreamTimes.{StreamTimes}
use Rattle.scenario.specs.declared.settings.Pause.{Pause}
use Rattle.scenario.specs.declared.settings.Restart.{Restart}
use Rattle.scenario.specs.declared.settings.Queue.{Queue}
use Rattle.scenario.specs.declared.settings.DialTimes.{DialTimes}
use Rattle.scenario.specs.declared.settings.Serf.{Serf}
use Rattle.scenario.specs.declared.script.ScriptEvent.{ScriptEvent}

-- members of one name, distinguished by an index
pub record Group : Type 0 where
  pub name : List ℕ
  pub count : ℕ
  -- when its members start
  pub start : ℕ
  -- whom they ask to let them join, where they start after moment 0
  pub contact : Option ℕ

pub record Setup : Type 0 where
  -- of the text's format
  pub version : Version
  pub seed : ℕ
  -- the last moment that is simulated
  pub end : ℕ
  pub swim : Swim
  pub suspicion : Suspicion
  pub lifeguard : Lifeguard
  pub link : Link
  -- in the order of the text
  pub groups : List Group
  -- in the order of the text
  pub paths : List Path
  -- in the order of the text
  pub slows : List Slow
  -- in the order of the text
  pub crashes : List Crash
  -- in the order of the text
  pub leaves : List Leave
  -- in the order of the text
  pub cuts : List Cut
  -- how members gossip, where they do
  pub gossip : Option Gossip
  pub stream : StreamTimes
  -- in the order of the text
  pub pauses : List Pause
  -- in the order of the text
  pub restarts : List Restart
  -- when members are blocked, in the order of the text
  pub blocks : List Pause
  -- how packets are filled from memberlist's queue, where they are
  pub queue : Option Queue
  -- how long members wait for connections
  pub dial : DialTimes
  -- how members leave and reconnect as Serf's do, where they do
  pub serf : Option Serf

-- NAME-0 to NAME-(count - 1), the index in decimal without leading zeros
abbrev pub names_below : List ℕ → ℕ → List (List ℕ)
names_below name count = map (λ i. name ++ codes "-" ++ decimal i) (range_with_len 0 count)

abbrev pub names_in : Group → List (List ℕ)
names_in g = names_below g.name g.count

-- the names of all members, which are numbered in the order of groups, then of index
abbrev pub member_names : Setup → List (List ℕ)
member_names s = flat_map names_in s.groups

abbrev pub member_count : Setup → ℕ
member_count s = sum_by (λ g. g.count) s.groups

-- a member's name
abbrev pub name_of : Setup → ℕ → List ℕ
name_of s m = unwrap_or (slice_get (member_names s) m) []

-- the number of a member's group
abbrev pub group_at : List Group → ℕ → ℕ
group_at [] m = 0
group_at (g ∷ gs) m = if nat_lt m g.count then 0 else 1 + group_at gs (m - g.count)

-- the path is from the one group to the other
abbrev pub leads : ℕ → ℕ → Path → Bool
leads from to p = nat_eq p.from from && nat_eq p.to to

-- the last link of a list, else another
abbrev pub last_link : Link → List Link → Link
last_link link [] = link
last_link link (next ∷ links) = last_link next links

-- the link from one member to another: that of the last path from the one's group to the other's,
-- else the link of all pairs
abbrev pub link_between : Setup → ℕ → ℕ → Link
link_between s i j = last_link s.link (map (λ p. p.link) (filter (leads (group_at s.groups i) (group_at s.groups j)) s.paths))

-- the group of a member
abbrev pub member_group : Setup → ℕ → Option Group
member_group s m = slice_get s.groups (group_at s.groups m)

-- when a member starts
abbrev pub start_of : Setup → ℕ → ℕ
start_of s m = option_map_or (λ g. g.start) (member_group s m) 0

-- whom a member that starts after moment 0 asks to let it join
abbrev pub contact_of : Setup → ℕ → Option ℕ
contact_of s m = option_and_then (λ g. g.contact) (member_group s m)

-- when a member crashes, if it does
abbrev pub crash_of : Setup → ℕ → Option ℕ
crash_of s m = option_map (λ c. c.at) (find (λ c. nat_eq c.member m) s.crashes)

-- when a member leaves, if it does
abbrev pub leave_of : Setup → ℕ → Option ℕ
leave_of s m = option_map (λ l. l.at) (find (λ l. nat_eq l.member m) s.leaves)

-- the entry says that the member is slow at the moment
abbrev pub is_slow : ℕ → ℕ → Slow → Bool
is_slow m t e = nat_eq e.member m && (nat_le e.from t && nat_lt t e.until)

-- by how many ticks the first entry that says so makes a member slow at a moment
abbrev pub first_extra : List Slow → ℕ → ℕ → ℕ
first_extra slows m t = option_map_or (λ e. e.extra) (find (is_slow m t) slows) 0

-- so many ticks, or what the entry says of a member at a moment, where that is more
abbrev pub more_extra : ℕ → ℕ → Slow → ℕ → ℕ
more_extra m t e extra = if is_slow m t e then max e.extra extra else extra

-- by how many ticks the entry that says the most makes a member slow at a moment
abbrev pub greatest_extra : List Slow → ℕ → ℕ → ℕ
greatest_extra [] m t = 0
greatest_extra (e ∷ es) m t = more_extra m t e (greatest_extra es m t)

abbrev pub is_fourth : Version → Bool
is_fourth One = false
is_fourth Two = false
is_fourth Three = false
is_fourth Four = true

-- which of the two counts: before version 4 no two say so
abbrev pub extra_by : Version → List Slow → ℕ → ℕ → ℕ
extra_by One slows m t = first_extra slows m t
extra_by Two slows m t = first_extra slows m t
extra_by Three slows m t = first_extra slows m t
extra_by Four slows m t = greatest_extra slows m t

-- by how many ticks a member is slow at a moment
abbrev pub extra_of : Setup → ℕ → ℕ → ℕ
extra_of s m t = extra_by s.version s.slows m t

-- the entry cuts what is sent from the one group to the other at the moment
abbrev pub cuts_off : ℕ → ℕ → ℕ → Cut → Bool
cuts_off from to t c = (nat_eq c.from from && nat_eq c.to to) && (nat_le c.at t && nat_lt t c.until)

-- what one member sends to another at a moment is lost, since the link from the one's group to the other's is cut
abbrev pub is_cut : Setup → ℕ → ℕ → ℕ → Bool
is_cut s i j t = list_any (cuts_off (group_at s.groups i) (group_at s.groups j) t) s.cuts

-- the member is in this pause at the moment
abbrev pub is_in_pause : ℕ → ℕ → Pause → Bool
is_in_pause m t p = nat_eq p.member m && (nat_le p.from t && nat_lt t p.until)

-- the member is paused at the moment
abbrev pub is_paused : Setup → ℕ → ℕ → Bool
is_paused s m t = list_any (is_in_pause m t) s.pauses

-- the ends of all pauses, added up: no pause lasts longer
abbrev pub ends_of : List Pause → ℕ
ends_of ps = sum_by (λ p. p.until) ps

-- When a member handles what is for a moment: at the first moment from that one on at which it isn't paused. It is
-- among those looked at, since the last of these comes after all pauses.
unfoldable pub awake : Setup → ℕ → ℕ → ℕ
awake s m t = unwrap_or (find (λ u. not (is_paused s m u)) (range_with_len t (ends_of s.pauses + 1))) t

-- the member is blocked at the moment
abbrev pub is_blocked : Setup → ℕ → ℕ → Bool
is_blocked s m t = list_any (is_in_pause m t) s.blocks

-- The first moment from a moment on at which a member isn't blocked: then what it sends at that moment departs, and then
-- it gets what comes.
unfoldable pub free : Setup → ℕ → ℕ → ℕ
free s m t = unwrap_or (find (λ u. not (is_blocked s m u)) (range_with_len t (ends_of s.blocks + 1))) t

-- what happens to members: crashes, then leaves, then restarts, each in the order of the text
abbrev pub entries_of : Setup → List ScriptEvent
entries_of s = entries_in s.crashes s.leaves s.restarts

-- What happens to a member, in the order of moments: events 1, 2, .. of its script.
abbrev pub script_of : Setup → ℕ → List ScriptEvent
script_of s m = script_in s.crashes s.leaves s.restarts m

-- a link's numbers are in the format's ranges
pub record IsSoundLink (l : Link) : Type 0 where
  pub delay : (0 < l.delay) × (l.delay ≤ 2 ^ 20)
  pub jitter : l.jitter ≤ 2 ^ 20
  pub loss : l.loss ≤ 1000000

-- A member that starts at moment 0 has no contact; one that starts later has one that starts at 0.
pub record IsSoundContact (s : Setup) (m : ℕ) : Type 0 where
  pub none : start_of s m ≡ 0 → contact_of s m ≡ None
  pub some : 0 < start_of s m → (c : ℕ) × (contact_of s m ≡ Some c) × (c < member_count s) × (start_of s c ≡ 0)

-- Nobody leaves and no link is cut: so is every scenario of version 1.
pub record IsPlain (s : Setup) : Type 0 where
  pub leaves : s.leaves ≡ []
  pub cuts : s.cuts ≡ []

-- the numbers of gossip are in the format's ranges
pub record IsSoundGossip (g : Gossip) : Type 0 where
  pub interval : (0 < g.interval) × (g.interval ≤ 2 ^ 24)
  pub nodes : (0 < g.nodes) × (g.nodes ≤ 16)
  pub dead : g.dead ≤ 2 ^ 40
  pub push : g.push ≤ 2 ^ 24

-- versions 1 and 2
abbrev pub IsBeforeThird : Version → Type 0
IsBeforeThird One = Unit {0}
IsBeforeThird Two = Unit {0}
IsBeforeThird Three = ⊥
IsBeforeThird Four = ⊥

-- Nobody calls, gossips or pauses: so is every scenario of versions 1 and 2.
pub record IsWithoutThird (s : Setup) : Type 0 where
  pub fallback : s.swim.fallback ≡ false
  pub gossip : s.gossip ≡ None
  pub pauses : s.pauses ≡ []

-- the numbers of a queue are in the format's ranges
pub record IsSoundQueue (q : Queue) : Type 0 where
  pub packet : q.packet ≤ 65507
  pub meta : q.meta ≤ 512

-- and those of Serf's leaves
pub record IsSoundSerf (f : Serf) : Type 0 where
  pub reconnect : (0 < f.reconnect) × (f.reconnect ≤ 2 ^ 24)
  pub reap : f.reap ≤ 2 ^ 40
  pub linger : (0 < f.linger) × (f.linger ≤ 2 ^ 24)

-- an event of the script is after its member's start; one that starts again asks another member, if any
pub record IsSoundEvent (s : Setup) (e : ScriptEvent) : Type 0 where
  pub after : start_of s e.member < e.at
  pub small : e.at ≤ 2 ^ 40
  pub contact : IfSome (asked_by e.kind) (λ c. (c < member_count s) × (c ≢ e.member))

-- versions 1 to 3
abbrev pub IsBeforeFourth : Version → Type 0
IsBeforeFourth One = Unit {0}
IsBeforeFourth Two = Unit {0}
IsBeforeFourth Three = Unit {0}
IsBeforeFourth Four = ⊥

-- Nobody starts again, is blocked, leaves or reconnects as Serf's members do, nor has a queue, and nobody crashes and
-- leaves: so is every scenario of versions 1 to 3.
pub record IsWithoutFourth (s : Setup) : Type 0 where
  pub restarts : s.restarts ≡ []
  pub blocks : s.blocks ≡ []
  pub queue : s.queue ≡ None
  pub serf : s.serf ≡ None
  pub once : (m : ℕ) → is_some (leave_of s m) ≡ true → crash_of s m ≡ None

-- What every scenario keeps: the format's ranges of its numbers, the timeout below the period, the form of
-- groups' names, who asks whom to join, crashes, leaves and restarts after the starts, before version 4 of each member
-- at most one, and cuts, pauses and blocks that last.
pub record IsSound (s : Setup) : Type 0 where
  pub end : s.end ≤ 2 ^ 40
  pub period : s.swim.period ≤ 2 ^ 24
  pub timeout : (0 < s.swim.timeout) × (s.swim.timeout < s.swim.period)
  pub helpers : s.swim.helpers ≤ 16
  pub carry : (0 < s.swim.carry) × (s.swim.carry ≤ 64)
  pub lambda : (0 < s.swim.lambda) × (s.swim.lambda ≤ 100)
  pub spread : (0 < s.swim.spread) × (s.swim.spread ≤ 2 ^ 24)
  pub alpha : (0 < s.suspicion.alpha) × (s.suspicion.alpha ≤ 100)
  pub beta : (0 < s.suspicion.beta) × (s.suspicion.beta ≤ 100)
  pub ceiling : s.lifeguard.ceiling ≤ 16
  pub confirmations : s.lifeguard.confirmations ≤ 9
  pub nack_percent : (0 < s.lifeguard.nack_percent) × (s.lifeguard.nack_percent ≤ 100)
  pub delay : (0 < s.link.delay) × (s.link.delay ≤ 2 ^ 20)
  pub jitter : s.link.jitter ≤ 2 ^ 20
  pub loss : s.link.loss ≤ 1000000
  pub between : (i j : ℕ) → IsSoundLink (link_between s i j)
  pub names : list_all (λ g. is_name_of s.version g.name) s.groups ≡ true
  pub members : (0 < member_count s) × (member_count s ≤ 16384)
  pub starts : (m : ℕ) → start_of s m ≤ 2 ^ 40
  pub contacts : (m : ℕ) → m < member_count s → IsSoundContact s m
  pub crashes : (m : ℕ) → IfSome (crash_of s m) (λ t. (start_of s m < t) × (t ≤ 2 ^ 40))
  pub extras : (m t : ℕ) → extra_of s m t ≤ 2 ^ 24
  pub leaves : (m : ℕ) → IfSome (leave_of s m) (λ t. (start_of s m < t) × (t ≤ 2 ^ 40))
  pub cuts : AllByRecursion (λ c. (c.at < c.until) × (c.until ≤ 2 ^ 40)) s.cuts
  pub first : s.version ≡ One → IsPlain s × (member_count s ≤ 1024)
  pub gossip : IfSome s.gossip IsSoundGossip
  pub connect : (0 < s.stream.connect) × (s.stream.connect ≤ 2 ^ 24)
  pub again : (0 < s.stream.again) × (s.stream.again ≤ 2 ^ 24)
  pub pauses : AllByRecursion (λ p. (p.from < p.until) × (p.until ≤ 2 ^ 40)) s.pauses
  pub before_third : IsBeforeThird s.version → IsWithoutThird s
  pub events : AllByRecursion (IsSoundEvent s) (entries_of s)
  pub blocks : AllByRecursion (λ p. (p.from < p.until) × (p.until ≤ 2 ^ 40)) s.blocks
  pub queue : IfSome s.queue IsSoundQueue
  pub limit : (0 < s.dial.limit) × (s.dial.limit ≤ 2 ^ 24)
  pub retry : (0 < s.dial.retry) × (s.dial.retry ≤ 2 ^ 24)
  pub serf : IfSome s.serf IsSoundSerf
  pub before_fourth : IsBeforeFourth s.version → IsWithoutFourth s
