-- What the scenario's keys are set to.
use Rattle.std.specs.Prelude.{ℕ, Bool, Option, Some, None, is_some}
use Rattle.schema.specs.declared.schema.FormatKey.{FormatKey}
use Rattle.schema.specs.declared.schema.FormatKey.TheVariants as key
use Rattle.schema.specs.declared.schema.Section.{Section}
use Rattle.schema.specs.declared.schema.Section.TheVariants as section
use Rattle.scenario.specs.Setup.{Setup}
use Rattle.scenario.specs.declared.settings.Swim.{Swim}
use Rattle.scenario.specs.declared.settings.Suspicion.{Suspicion}
use Rattle.scenario.specs.declared.settings.Lifeguard.{Lifeguard}
use Rattle.scenario.specs.declared.settings.Link.{Link}
use Rattle.scenario.specs.declared.settings.Gossip.{Gossip}
use Rattle.scenario.specs.declared.settings.StreamTimes.{StreamTimes}
use Rattle.scenario.specs.declared.settings.Queue.{Queue}
use Rattle.scenario.specs.declared.settings.DialTimes.{DialTimes}
use Rattle.scenario.specs.declared.settings.Serf.{Serf}

-- the whole numbers of keys in their tables
abbrev pub swim_value : Swim → FormatKey → Option ℕ
swim_value swim key.Period = Some swim.period
swim_value swim key.Timeout = Some swim.timeout
swim_value swim key.Helpers = Some swim.helpers
swim_value swim key.Carry = Some swim.carry
swim_value swim key.Lambda = Some swim.lambda
swim_value swim key.Spread = Some swim.spread
swim_value swim _ = None

abbrev pub suspicion_value : Suspicion → FormatKey → Option ℕ
suspicion_value suspicion key.Alpha = Some suspicion.alpha
suspicion_value suspicion key.Beta = Some suspicion.beta
suspicion_value suspicion _ = None

abbrev pub lifeguard_value : Lifeguard → FormatKey → Option ℕ
lifeguard_value lifeguard key.Ceiling = Some lifeguard.ceiling
lifeguard_value lifeguard key.Confirmations = Some lifeguard.confirmations
lifeguard_value lifeguard key.NackPercent = Some lifeguard.nack_percent
lifeguard_value lifeguard _ = None

abbrev pub link_value : Link → FormatKey → Option ℕ
link_value link key.Delay = Some link.delay
link_value link key.Jitter = Some link.jitter
link_value link key.Loss = Some link.loss
link_value link _ = None

abbrev pub gossip_value : Gossip → FormatKey → Option ℕ
gossip_value gossip key.Interval = Some gossip.interval
gossip_value gossip key.Nodes = Some gossip.nodes
gossip_value gossip key.Dead = Some gossip.dead
gossip_value gossip key.Push = Some gossip.push
gossip_value gossip _ = None

-- a packet's numbers, which count where it is filled from memberlist's queue
abbrev pub queue_value : Option Queue → FormatKey → Option ℕ
queue_value (Some queue) key.Packet = Some queue.packet
queue_value (Some queue) key.Meta = Some queue.meta
queue_value _ _ = None

-- those of gossip and of its packets, where members gossip
abbrev pub gossip_value_of : Option Gossip → Option Queue → FormatKey → Option ℕ
gossip_value_of (Some gossip) queue key.Packet = queue_value queue key.Packet
gossip_value_of (Some gossip) queue key.Meta = queue_value queue key.Meta
gossip_value_of (Some gossip) queue key = gossip_value gossip key
gossip_value_of None queue key = None

abbrev pub stream_value : StreamTimes → DialTimes → FormatKey → Option ℕ
stream_value stream dial key.Connect = Some stream.connect
stream_value stream dial key.Again = Some stream.again
stream_value stream dial key.Limit = Some dial.limit
stream_value stream dial key.Retry = Some dial.retry
stream_value stream dial _ = None

abbrev pub serf_value : Serf → FormatKey → Option ℕ
serf_value serf key.Reconnect = Some serf.reconnect
serf_value serf key.Reap = Some serf.reap
serf_value serf key.Linger = Some serf.linger
serf_value serf _ = None

abbrev pub serf_value_of : Option Serf → FormatKey → Option ℕ
serf_value_of (Some serf) key = serf_value serf key
serf_value_of None key = None

abbrev pub value_of : Setup → Section → FormatKey → Option ℕ
value_of s section.Swim key = swim_value s.swim key
value_of s section.Suspicion key = suspicion_value s.suspicion key
value_of s section.Lifeguard key = lifeguard_value s.lifeguard key
value_of s section.Link key = link_value s.link key
value_of s section.Gossip key = gossip_value_of s.gossip s.queue key
value_of s section.Stream key = stream_value s.stream s.dial key
value_of s section.Serf key = serf_value_of s.serf key
value_of s _ key = None

-- whether packets are filled from memberlist's queue, where members gossip
abbrev pub queue_switch : Option Gossip → Option Queue → Option Bool
queue_switch (Some gossip) queue = Some (is_some queue)
queue_switch None queue = None

-- the switch of a key
abbrev pub switch_of : Setup → FormatKey → Option Bool
switch_of s key.Fallback = Some s.swim.fallback
switch_of s key.Probe = Some s.lifeguard.probe
switch_of s key.Suspicion = Some s.lifeguard.suspicion
switch_of s key.Buddy = Some s.lifeguard.buddy
switch_of s key.Queue = queue_switch s.gossip s.queue
switch_of s _ = None
