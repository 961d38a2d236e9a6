-- Which preset a scenario is nearest to: that from which the fewest of its keys differ.
use Rattle.std.specs.Prelude.{ℕ, ◌+◌, Bool, true, false, not, ◌&&◌, nat_eq, nat_le, if◌then◌else◌, Option, Some, None, count_by}
use Rattle.presets.specs.declared.preset.Preset.{Preset}
use Rattle.presets.specs.declared.preset.Preset.TheVariants.{Local, Lan, Wan, Serf, SerfWan, Consul, ConsulWan, Swim}
use Rattle.schema.specs.Schema.{key_rules_of}
use Rattle.schema.specs.declared.schema.Version.{Version}
use Rattle.schema.specs.declared.schema.Version.TheVariants.{One, Two, Three, Four}
use Rattle.schema.specs.declared.schema.KeyRule.{KeyRule}
use Rattle.schema.specs.declared.schema.FormatKey.{FormatKey}
use Rattle.schema.specs.declared.schema.FormatKey.TheVariants as key
use Rattle.schema.specs.declared.schema.Section.{Section}
use Rattle.schema.specs.declared.schema.Section.TheVariants as section
use Rattle.scenario.specs.Setup.{Setup}
use Rattle.scenario.specs.declared.settings.Serf.{Serf as SerfTimes}
use Rattle.run_settings.specs.Values.{value_of, switch_of}

-- a number on one machine, in one data centre and between data centres, and in the format's own preset, which may not have the key
abbrev pub in_each_or : ℕ → ℕ → ℕ → Option ℕ → Preset → Option ℕ
in_each_or local lan wan swim Local = Some local
in_each_or local lan wan swim Lan = Some lan
in_each_or local lan wan swim Wan = Some wan
in_each_or local lan wan swim Serf = Some lan
in_each_or local lan wan swim SerfWan = Some wan
in_each_or local lan wan swim Consul = Some lan
in_each_or local lan wan swim ConsulWan = Some wan
in_each_or local lan wan swim Swim = swim

-- a number in each of the presets
abbrev pub in_each : ℕ → ℕ → ℕ → ℕ → Preset → Option ℕ
in_each local lan wan swim preset = in_each_or local lan wan (Some swim) preset

-- one in each but the format's own, which doesn't have the key
abbrev pub in_three : ℕ → ℕ → ℕ → Preset → Option ℕ
in_three local lan wan preset = in_each_or local lan wan None preset

-- one by whose program the members run, for a key that the format's own doesn't have, and maybe memberlist's don't
abbrev pub by_owner : Option ℕ → ℕ → ℕ → ℕ → Preset → Option ℕ
by_owner memberlist serf consul consul_wan Local = memberlist
by_owner memberlist serf consul consul_wan Lan = memberlist
by_owner memberlist serf consul consul_wan Wan = memberlist
by_owner memberlist serf consul consul_wan Serf = Some serf
by_owner memberlist serf consul consul_wan SerfWan = Some serf
by_owner memberlist serf consul consul_wan Consul = Some consul
by_owner memberlist serf consul consul_wan ConsulWan = Some consul_wan
by_owner memberlist serf consul consul_wan Swim = None

-- the number that `init` prints for a key
abbrev pub usual : Preset → FormatKey → Option ℕ
usual preset key.Period = in_each 1000 1000 5000 1000 preset
usual preset key.Timeout = in_each 200 500 3000 300 preset
usual preset key.Helpers = in_each 1 3 3 3 preset
usual preset key.Carry = in_each 20 20 20 6 preset
usual preset key.Lambda = in_each 2 4 4 3 preset
usual preset key.Spread = in_each 1000 1000 5000 1 preset
usual preset key.Alpha = in_each 3 4 6 5 preset
usual preset key.Beta = in_each 6 6 6 6 preset
usual preset key.Ceiling = in_each 7 7 7 8 preset
usual preset key.Confirmations = in_each 1 2 4 3 preset
usual preset key.NackPercent = in_each 100 100 100 80 preset
usual preset key.Delay = in_each 1 1 40 1 preset
usual preset key.Jitter = in_each 0 1 5 0 preset
usual preset key.Loss = in_each 0 0 0 0 preset
usual preset key.Interval = in_three 100 200 500 preset
usual preset key.Nodes = in_three 3 3 4 preset
usual preset key.Dead = in_three 15000 30000 60000 preset
usual preset key.Push = in_three 15000 30000 60000 preset
usual preset key.Connect = in_three 1000 1000 1000 preset
usual preset key.Again = in_three 200 200 200 preset
usual preset key.Packet = in_three 1400 1400 1400 preset
usual preset key.Meta = by_owner (Some 0) 2 125 241 preset
usual preset key.Limit = in_three 1000 10000 30000 preset
usual preset key.Retry = in_three 30000 30000 30000 preset
usual preset key.Reconnect = by_owner None 30000 30000 30000 preset
usual preset key.Reap = by_owner None 86400000 259200000 259200000 preset
usual preset key.Linger = by_owner None 1000 3000 3000 preset
usual preset _ = None

-- the preset has memberlist's rules
abbrev pub is_memberlists : Preset → Bool
is_memberlists Swim = false
is_memberlists _ = true

-- the switch that it prints: all are on, and the fallback and the queue by memberlist's rules alone
abbrev pub usual_switch : Preset → FormatKey → Bool
usual_switch preset key.Fallback = is_memberlists preset
usual_switch preset key.Queue = is_memberlists preset
usual_switch preset _ = true

-- the number isn't that one
abbrev pub is_other_number : ℕ → Option ℕ → Bool
is_other_number number None = false
is_other_number number (Some usual) = not (nat_eq usual number)

-- the switch isn't
abbrev pub is_other_switch : Bool → Bool → Bool
is_other_switch on usual = if usual then not on else on

-- a key isn't as in a preset
abbrev pub is_other : Option ℕ → Option Bool → Preset → FormatKey → Bool
is_other (Some number) on preset key = is_other_number number (usual preset key)
is_other None (Some on) preset key = is_other_switch on (usual_switch preset key)
is_other None None preset key = false

abbrev pub differs : Setup → Preset → Section → KeyRule → Bool
differs s preset section rule = is_other (value_of s section rule.key) (switch_of s rule.key) preset rule.key

-- how many keys of a table aren't
abbrev pub differing_in : Setup → Preset → Section → ℕ
differing_in s preset section = count_by (differs s preset section) (key_rules_of s.version section)

-- how many keys of all tables aren't
unfoldable pub differing : Setup → Preset → ℕ
differing s preset =
    differing_in s preset section.Swim + differing_in s preset section.Suspicion + differing_in s preset section.Lifeguard
    + differing_in s preset section.Link + differing_in s preset section.Gossip + differing_in s preset section.Stream + differing_in s preset section.Serf

-- the least of three; of equal ones the first of lan, wan and local
abbrev pub of_least : ℕ → ℕ → ℕ → Preset
of_least lan wan local = if nat_le lan wan && nat_le lan local then Lan else if nat_le wan local then Wan else Local

-- the least of four; of equal ones the first
abbrev pub of_least_of_four : ℕ → ℕ → ℕ → ℕ → Preset
of_least_of_four serf serf_wan consul consul_wan =
    if nat_le serf serf_wan && (nat_le serf consul && nat_le serf consul_wan) then Serf
    else if nat_le serf_wan consul && nat_le serf_wan consul_wan then SerfWan
    else if nat_le consul consul_wan then Consul
    else ConsulWan

-- of the presets of version 4 the nearest: of memberlist's, and where members leave and reconnect as Serf's do, of Serf's and Consul's
abbrev pub nearest_fourth : Setup → Option SerfTimes → Preset
nearest_fourth s None = of_least (differing s Lan) (differing s Wan) (differing s Local)
nearest_fourth s (Some serf) = of_least_of_four (differing s Serf) (differing s SerfWan) (differing s Consul) (differing s ConsulWan)

-- of the presets of a version the nearest: versions 1 and 2 have one
abbrev pub nearest_in : Setup → Version → Preset
nearest_in s One = Swim
nearest_in s Two = Swim
nearest_in s Three = of_least (differing s Lan) (differing s Wan) (differing s Local)
nearest_in s Four = nearest_fourth s s.serf

abbrev pub nearest : Setup → Preset
nearest s = nearest_in s s.version
