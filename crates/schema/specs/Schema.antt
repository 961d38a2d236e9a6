-- How the keys of the format are spelt, and which keys a kind of table has in a version, with their ranges and defaults.
use Rattle.std.specs.Prelude.{ℕ, ◌-◌, ◌^◌, List, [], ◌∷◌, codes}
use Rattle.schema.specs.declared.schema.Version.{Version}
use Rattle.schema.specs.declared.schema.Version.TheVariants.{One, Two, Three, Four}
use Rattle.schema.specs.declared.schema.KeyRule.{KeyRule}
use Rattle.schema.specs.declared.schema.FormatKey.{FormatKey}
use Rattle.schema.specs.declared.schema.FormatKey.TheVariants as key
use Rattle.schema.specs.declared.schema.Kind.{Kind}
use Rattle.schema.specs.declared.schema.Kind.TheVariants.{Whole, Switch, Text, Table}
use Rattle.schema.specs.declared.schema.Kind.TheVariants as kind
use Rattle.schema.specs.declared.schema.Absence.TheVariants.{Refused, RefusedOver0, Default, Off, Optional}
use Rattle.schema.specs.declared.schema.Section.{Section}
use Rattle.schema.specs.declared.schema.Section.TheVariants as section

-- how a text spells the key
unfoldable pub spelling_of : FormatKey → List ℕ
spelling_of key.Version = codes "version"
spelling_of key.Seed = codes "seed"
spelling_of key.End = codes "end"
spelling_of key.Swim = codes "swim"
spelling_of key.Suspicion = codes "suspicion"
spelling_of key.Lifeguard = codes "lifeguard"
spelling_of key.Link = codes "link"
spelling_of key.Group = codes "group"
spelling_of key.Path = codes "path"
spelling_of key.Slow = codes "slow"
spelling_of key.Crash = codes "crash"
spelling_of key.Cut = codes "cut"
spelling_of key.Leave = codes "leave"
spelling_of key.Pause = codes "pause"
spelling_of key.Gossip = codes "gossip"
spelling_of key.Stream = codes "stream"
spelling_of key.Period = codes "period"
spelling_of key.Timeout = codes "timeout"
spelling_of key.Helpers = codes "helpers"
spelling_of key.Carry = codes "carry"
spelling_of key.Lambda = codes "lambda"
spelling_of key.Spread = codes "spread"
spelling_of key.Fallback = codes "fallback"
spelling_of key.Alpha = codes "alpha"
spelling_of key.Beta = codes "beta"
spelling_of key.Probe = codes "probe"
spelling_of key.Buddy = codes "buddy"
spelling_of key.Ceiling = codes "ceiling"
spelling_of key.Confirmations = codes "confirmations"
spelling_of key.NackPercent = codes "nack_percent"
spelling_of key.Delay = codes "delay"
spelling_of key.Jitter = codes "jitter"
spelling_of key.Loss = codes "loss"
spelling_of key.Name = codes "name"
spelling_of key.Count = codes "count"
spelling_of key.Start = codes "start"
spelling_of key.Contact = codes "contact"
spelling_of key.From = codes "from"
spelling_of key.To = codes "to"
spelling_of key.Member = codes "member"
spelling_of key.Until = codes "until"
spelling_of key.Extra = codes "extra"
spelling_of key.At = codes "at"
spelling_of key.Interval = codes "interval"
spelling_of key.Nodes = codes "nodes"
spelling_of key.Dead = codes "dead"
spelling_of key.Push = codes "push"
spelling_of key.Connect = codes "connect"
spelling_of key.Again = codes "again"
spelling_of key.Restart = codes "restart"
spelling_of key.Block = codes "block"
spelling_of key.Serf = codes "serf"
spelling_of key.Queue = codes "queue"
spelling_of key.Packet = codes "packet"
spelling_of key.Meta = codes "meta"
spelling_of key.Limit = codes "limit"
spelling_of key.Retry = codes "retry"
spelling_of key.Reconnect = codes "reconnect"
spelling_of key.Reap = codes "reap"
spelling_of key.Linger = codes "linger"

-- a key that has to be there
abbrev required : FormatKey → Kind → KeyRule
required k values = record { key = k; absence = Refused; kind = values }

-- a key that has to be there where the number of another key of its table is over 0
abbrev required_over_0 : FormatKey → FormatKey → Kind → KeyRule
required_over_0 other k values = record { key = k; absence = RefusedOver0 other; kind = values }

-- a number that has a default
abbrev or_else : ℕ → FormatKey → Kind → KeyRule
or_else default k values = record { key = k; absence = Default default; kind = values }

-- a switch that is off where it isn't there
abbrev off : FormatKey → KeyRule
off k = record { key = k; absence = Off; kind = Switch }

-- a key that may be left out
abbrev optional : FormatKey → Kind → KeyRule
optional k values = record { key = k; absence = Optional; kind = values }

-- the number of a version
abbrev pub number_of : Version → ℕ
number_of One = 1
number_of Two = 2
number_of Three = 3
number_of Four = 4

-- how many members a scenario may have
abbrev pub most_members : Version → ℕ
most_members One = 1024
most_members Two = 4096
most_members Three = 4096
most_members Four = 16384

-- what later versions add to the whole text
abbrev pub added_keys : Version → List KeyRule
added_keys One = []
added_keys Two = optional key.Cut (kind.List section.Cut) ∷ optional key.Leave (kind.List section.Departure) ∷ []
added_keys Three =
    optional key.Cut (kind.List section.Cut)
    ∷ optional key.Leave (kind.List section.Departure)
    ∷ optional key.Gossip (Table section.Gossip)
    ∷ optional key.Stream (Table section.Stream)
    ∷ optional key.Pause (kind.List section.Pause)
    ∷ []
added_keys Four =
    optional key.Cut (kind.List section.Cut)
    ∷ optional key.Leave (kind.List section.Departure)
    ∷ optional key.Gossip (Table section.Gossip)
    ∷ optional key.Stream (Table section.Stream)
    ∷ optional key.Pause (kind.List section.Pause)
    ∷ optional key.Restart (kind.List section.Restart)
    ∷ optional key.Block (kind.List section.Pause)
    ∷ optional key.Serf (Table section.Serf)
    ∷ []

-- what version 4 adds to how members gossip between their probes
abbrev pub added_to_gossip : Version → List KeyRule
added_to_gossip One = []
added_to_gossip Two = []
added_to_gossip Three = []
added_to_gossip Four =
    off key.Queue
    ∷ or_else 0 key.Packet (Whole 0 65507)
    ∷ or_else 0 key.Meta (Whole 0 512)
    ∷ []

-- what version 4 adds to how streams are opened
abbrev pub added_to_stream : Version → List KeyRule
added_to_stream One = []
added_to_stream Two = []
added_to_stream Three = []
added_to_stream Four =
    or_else 10000 key.Limit (Whole 1 (2 ^ 24))
    ∷ or_else 30000 key.Retry (Whole 1 (2 ^ 24))
    ∷ []

-- what versions 3 and 4 add to how members probe
abbrev pub added_to_swim : Version → List KeyRule
added_to_swim One = []
added_to_swim Two = []
added_to_swim Three = off key.Fallback ∷ []
added_to_swim Four = off key.Fallback ∷ []

-- The keys of a kind of table, each with its kind, its range and its default: moments go up to 2^40, lengths of time up to 2^24, delays and jitters up to
-- 2^20 ticks, and a loss is in parts per million. No default differs between versions.
unfoldable pub key_rules_of : Version → Section → List KeyRule
key_rules_of v section.Top =
    required key.Version (Whole 1 (number_of v))
    ∷ required key.Seed (Whole 0 (2 ^ 63 - 1))
    ∷ required key.End (Whole 0 (2 ^ 40))
    ∷ required key.Swim (Table section.Swim)
    ∷ optional key.Suspicion (Table section.Suspicion)
    ∷ optional key.Lifeguard (Table section.Lifeguard)
    ∷ required key.Link (Table section.Link)
    ∷ required key.Group (kind.List section.Group)
    ∷ optional key.Path (kind.List section.Path)
    ∷ optional key.Slow (kind.List section.Slow)
    ∷ optional key.Crash (kind.List section.Departure)
    ∷ added_keys v
key_rules_of v section.Swim =
    required key.Period (Whole 2 (2 ^ 24))
    ∷ required key.Timeout (Whole 1 (2 ^ 24))
    ∷ or_else 3 key.Helpers (Whole 0 16)
    ∷ or_else 6 key.Carry (Whole 1 64)
    ∷ or_else 3 key.Lambda (Whole 1 100)
    ∷ or_else 1 key.Spread (Whole 1 (2 ^ 24))
    ∷ added_to_swim v
key_rules_of v section.Suspicion =
    or_else 5 key.Alpha (Whole 1 100)
    ∷ or_else 6 key.Beta (Whole 1 100)
    ∷ []
key_rules_of v section.Lifeguard =
    optional key.Probe Switch
    ∷ optional key.Suspicion Switch
    ∷ optional key.Buddy Switch
    ∷ or_else 8 key.Ceiling (Whole 0 16)
    ∷ or_else 3 key.Confirmations (Whole 0 9)
    ∷ or_else 80 key.NackPercent (Whole 1 100)
    ∷ []
key_rules_of v section.Link =
    required key.Delay (Whole 1 (2 ^ 20))
    ∷ or_else 0 key.Jitter (Whole 0 (2 ^ 20))
    ∷ or_else 0 key.Loss (Whole 0 1000000)
    ∷ []
key_rules_of v section.Group =
    required key.Name Text
    ∷ required key.Count (Whole 1 (most_members v))
    ∷ or_else 0 key.Start (Whole 0 (2 ^ 40))
    ∷ required_over_0 key.Start key.Contact Text
    ∷ []
key_rules_of v section.Path =
    required key.From Text
    ∷ required key.To Text
    ∷ optional key.Delay (Whole 1 (2 ^ 20))
    ∷ optional key.Jitter (Whole 0 (2 ^ 20))
    ∷ optional key.Loss (Whole 0 1000000)
    ∷ []
key_rules_of v section.Slow =
    required key.Member Text
    ∷ required key.From (Whole 0 (2 ^ 40))
    ∷ required key.Until (Whole 0 (2 ^ 40))
    ∷ required key.Extra (Whole 1 (2 ^ 24))
    ∷ []
key_rules_of v section.Departure =
    required key.Member Text
    ∷ required key.At (Whole 0 (2 ^ 40))
    ∷ []
key_rules_of v section.Cut =
    required key.From Text
    ∷ required key.To Text
    ∷ required key.At (Whole 0 (2 ^ 40))
    ∷ required key.Until (Whole 0 (2 ^ 40))
    ∷ []
key_rules_of v section.Gossip =
    required key.Interval (Whole 1 (2 ^ 24))
    ∷ or_else 3 key.Nodes (Whole 1 16)
    ∷ or_else 0 key.Dead (Whole 0 (2 ^ 40))
    ∷ or_else 0 key.Push (Whole 0 (2 ^ 24))
    ∷ added_to_gossip v
key_rules_of v section.Stream =
    or_else 1000 key.Connect (Whole 1 (2 ^ 24))
    ∷ or_else 200 key.Again (Whole 1 (2 ^ 24))
    ∷ added_to_stream v
key_rules_of v section.Pause =
    required key.Member Text
    ∷ required key.From (Whole 0 (2 ^ 40))
    ∷ required key.Until (Whole 0 (2 ^ 40))
    ∷ []
key_rules_of v section.Restart =
    required key.Member Text
    ∷ required key.At (Whole 0 (2 ^ 40))
    ∷ optional key.Contact Text
    ∷ []
key_rules_of v section.Serf =
    or_else 30000 key.Reconnect (Whole 1 (2 ^ 24))
    ∷ or_else 86400000 key.Reap (Whole 0 (2 ^ 40))
    ∷ or_else 1000 key.Linger (Whole 1 (2 ^ 24))
    ∷ []
