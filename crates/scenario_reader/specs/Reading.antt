-- The scenario that a TOML document says, key by key, with the format's defaults.
use Rattle.std.specs.Prelude.{ℕ, Bool, false, List, [], if◌then◌else◌, nat_eq, Option, Some, None, map, option_map, flat_map, unwrap_or, option_and_then, bytes_eq}
use Rattle.std.specs.List.{position}
use Rattle.toml.specs.Data.{Data}
use Rattle.schema.specs.Tree.{value_at, items_at}
use Rattle.schema.specs.Values.{whole_or, number_at, switch_at, switch_set, text_if, text_at}
use Rattle.schema.specs.declared.schema.Version.{Version}
use Rattle.schema.specs.declared.schema.Version.TheVariants.{One, Two, Three, Four}
use Rattle.schema.specs.declared.schema.FormatKey.{FormatKey}
use Rattle.schema.specs.declared.schema.FormatKey.TheVariants as key
use Rattle.schema.specs.declared.schema.Section.TheVariants as section
use Rattle.scenario.specs.Setup.{Setup, Group, names_in}
use Rattle.scenario.specs.declared.settings.Swim.{Swim}
use Rattle.scenario.specs.declared.settings.Suspicion.{Suspicion}
use Rattle.scenario.specs.declared.settings.Lifeguard.{Lifeguard}
use Rattle.scenario.specs.declared.settings.Link.{Link}
use Rattle.scenario.specs.declared.settings.Path.{Path}
use Rattle.scenario.specs.declared.settings.Slow.{Slow}
use Rattle.scenario.specs.declared.settings.Crash.{Crash}
use Rattle.scenario.specs.declared.settings.Leave.{Leave}
use Rattle.scenario.specs.declared.settings.Cut.{Cut}
use Rattle.scenario.specs.declared.settings.Gossip.{Gossip}
use Rattle.scenario.specs.declared.settings.StreamTimes.{StreamTimes}
use Rattle.scenario.specs.declared.settings.Pause.{Pause}
use Rattle.scenario.specs.declared.settings.Restart.{Restart}
use Rattle.scenario.specs.declared.settings.Queue.{Queue}
use Rattle.scenario.specs.declared.settings.DialTimes.{DialTimes}
use Rattle.scenario.specs.declared.settings.Serf.{Serf}

-- the version of that number, 2 to 4, else version 1
abbrev pub version_numbered : ℕ → Version
version_numbered n = if nat_eq n 2 then Two else if nat_eq n 3 then Three else if nat_eq n 4 then Four else One

-- version 2, 3 or 4 where the document's `version` is that whole number, else version 1
unfoldable pub version_of : Data → Version
version_of tree = version_numbered (whole_or 0 (value_at key.Version tree))

-- the items of a list that version 2 adds
abbrev pub added_items : Version → FormatKey → Data → List Data
added_items One key tree = []
added_items Two key tree = items_at key tree
added_items Three key tree = items_at key tree
added_items Four key tree = items_at key tree

-- the pauses, which version 3 adds
abbrev pub pause_items : Version → Data → List Data
pause_items One tree = []
pause_items Two tree = []
pause_items Three tree = items_at key.Pause tree
pause_items Four tree = items_at key.Pause tree

-- the items of a list that version 4 adds
abbrev pub fourth_items : Version → FormatKey → Data → List Data
fourth_items One key tree = []
fourth_items Two key tree = []
fourth_items Three key tree = []
fourth_items Four key tree = items_at key tree

-- a table that version 4 adds, or that has more keys in it
abbrev pub fourth_table : Version → FormatKey → Data → Option Data
fourth_table One key tree = None
fourth_table Two key tree = None
fourth_table Three key tree = None
fourth_table Four key tree = value_at key tree

-- one item of the list of groups, its contact left out
abbrev pub plain_group : Data → Group
plain_group d = record {
  name = text_at key.Name d;
  count = number_at section.Group key.Count (Some d);
  start = number_at section.Group key.Start (Some d);
  contact = None;
}

-- the groups, their contacts left out
unfoldable pub plain_groups : Data → List Group
plain_groups tree = map plain_group (items_at key.Group tree)

-- the names of all members, which are numbered in the order of groups, then of index
abbrev pub names_of_all : List Group → List (List ℕ)
names_of_all groups = flat_map names_in groups

-- the number of the member of that name
unfoldable pub member_named : List Group → List ℕ → Option ℕ
member_named groups name = position (bytes_eq name) (names_of_all groups)

-- the number of the group of that name
abbrev pub group_named : List Group → List ℕ → Option ℕ
group_named groups name = position (λ g. bytes_eq name g.name) groups

-- the number of the group that a key names
abbrev pub group_at_key : List Group → FormatKey → Data → ℕ
group_at_key groups key d = unwrap_or (group_named groups (text_at key d)) 0

-- one item of the list of groups
abbrev pub group_in : List Group → Data → Group
group_in groups d = record {
  name = text_at key.Name d;
  count = number_at section.Group key.Count (Some d);
  start = number_at section.Group key.Start (Some d);
  contact = option_and_then (member_named groups) (text_if key.Contact d);
}

-- a link whose numbers are those of a table, where they are there
abbrev pub link_over : Link → Data → Link
link_over link d = record { delay = whole_or link.delay (value_at key.Delay d); jitter = whole_or link.jitter (value_at key.Jitter d); loss = whole_or link.loss (value_at key.Loss d) }

-- one item of the list of paths; what it leaves out is the link's of all pairs
abbrev pub path_in : List Group → Link → Data → Path
path_in groups link d = record {
  from = group_at_key groups key.From d;
  to = group_at_key groups key.To d;
  link = link_over link d;
}

-- the number of the member that a key names
abbrev pub member_at : List Group → FormatKey → Data → ℕ
member_at groups key d = unwrap_or (member_named groups (text_at key d)) 0

-- one item of the list of times in which members are slow
abbrev pub slow_in : List Group → Data → Slow
slow_in groups d = record {
  member = member_at groups key.Member d;
  from = number_at section.Slow key.From (Some d);
  until = number_at section.Slow key.Until (Some d);
  extra = number_at section.Slow key.Extra (Some d);
}

-- one item of the list of crashes
abbrev pub crash_in : List Group → Data → Crash
crash_in groups d = record { member = member_at groups key.Member d; at = number_at section.Departure key.At (Some d) }

-- one item of the list of leaves
abbrev pub leave_in : List Group → Data → Leave
leave_in groups d = record { member = member_at groups key.Member d; at = number_at section.Departure key.At (Some d) }

-- one item of the list of cuts
abbrev pub cut_in : List Group → Data → Cut
cut_in groups d = record {
  from = group_at_key groups key.From d;
  to = group_at_key groups key.To d;
  at = number_at section.Cut key.At (Some d);
  until = number_at section.Cut key.Until (Some d);
}

-- one item of the list of pauses
abbrev pub pause_in : List Group → Data → Pause
pause_in groups d = record {
  member = member_at groups key.Member d;
  from = number_at section.Pause key.From (Some d);
  until = number_at section.Pause key.Until (Some d);
}

-- one item of the list of restarts
abbrev pub restart_in : List Group → Data → Restart
restart_in groups d = record {
  member = member_at groups key.Member d;
  at = number_at section.Restart key.At (Some d);
  contact = option_and_then (member_named groups) (text_if key.Contact d);
}

abbrev pub slows_in : List Group → Data → List Slow
slows_in groups tree = map (slow_in groups) (items_at key.Slow tree)

abbrev pub crashes_in : List Group → Data → List Crash
crashes_in groups tree = map (crash_in groups) (items_at key.Crash tree)

abbrev pub leaves_in : Version → List Group → Data → List Leave
leaves_in v groups tree = map (leave_in groups) (added_items v key.Leave tree)

abbrev pub cuts_in : Version → List Group → Data → List Cut
cuts_in v groups tree = map (cut_in groups) (added_items v key.Cut tree)

abbrev pub pauses_in : Version → List Group → Data → List Pause
pauses_in v groups tree = map (pause_in groups) (pause_items v tree)

abbrev pub restarts_in : Version → List Group → Data → List Restart
restarts_in v groups tree = map (restart_in groups) (fourth_items v key.Restart tree)

abbrev pub blocks_in : Version → List Group → Data → List Pause
blocks_in v groups tree = map (pause_in groups) (fourth_items v key.Block tree)

-- whether a stream takes over where a ping goes unanswered; never before version 3
abbrev pub fallback_in : Version → Option Data → Bool
fallback_in One d = false
fallback_in Two d = false
fallback_in Three d = switch_set key.Fallback d
fallback_in Four d = switch_set key.Fallback d

-- how members probe and gossip
abbrev pub swim_in : Version → Option Data → Swim
swim_in v d = record {
  period = number_at section.Swim key.Period d;
  timeout = number_at section.Swim key.Timeout d;
  helpers = number_at section.Swim key.Helpers d;
  carry = number_at section.Swim key.Carry d;
  lambda = number_at section.Swim key.Lambda d;
  spread = number_at section.Swim key.Spread d;
  fallback = fallback_in v d;
}

-- how long suspicions last
abbrev pub suspicion_in : Option Data → Suspicion
suspicion_in d = record { alpha = number_at section.Suspicion key.Alpha d; beta = number_at section.Suspicion key.Beta d }

-- Lifeguard's switches and their settings
abbrev pub lifeguard_in : Option Data → Lifeguard
lifeguard_in d = record {
  probe = switch_at key.Probe d;
  suspicion = switch_at key.Suspicion d;
  buddy = switch_at key.Buddy d;
  ceiling = number_at section.Lifeguard key.Ceiling d;
  confirmations = number_at section.Lifeguard key.Confirmations d;
  nack_percent = number_at section.Lifeguard key.NackPercent d;
}

-- how messages travel
abbrev pub link_in : Option Data → Link
link_in d = record { delay = number_at section.Link key.Delay d; jitter = number_at section.Link key.Jitter d; loss = number_at section.Link key.Loss d }

-- how members gossip between their probes
abbrev pub gossip_of : Data → Gossip
gossip_of d = record {
  interval = number_at section.Gossip key.Interval (Some d);
  nodes = number_at section.Gossip key.Nodes (Some d);
  dead = number_at section.Gossip key.Dead (Some d);
  push = number_at section.Gossip key.Push (Some d);
}

-- the same, where they do; never before version 3
abbrev pub gossip_in : Version → Option Data → Option Gossip
gossip_in One d = None
gossip_in Two d = None
gossip_in Three d = option_map gossip_of d
gossip_in Four d = option_map gossip_of d

-- how streams send again
abbrev pub stream_in : Option Data → StreamTimes
stream_in d = record { connect = number_at section.Stream key.Connect d; again = number_at section.Stream key.Again d }

-- the table of streams, which version 3 adds
abbrev pub stream_table : Version → Data → Option Data
stream_table One tree = None
stream_table Two tree = None
stream_table Three tree = value_at key.Stream tree
stream_table Four tree = value_at key.Stream tree

-- how packets are filled from memberlist's queue, where the switch is on
abbrev pub queue_in : Data → Option Queue
queue_in d = if switch_set key.Queue (Some d)
    then Some (record { packet = number_at section.Gossip key.Packet (Some d); meta = number_at section.Gossip key.Meta (Some d) })
    else None

-- how long members wait for connections
abbrev pub dial_in : Option Data → DialTimes
dial_in d = record { limit = number_at section.Stream key.Limit d; retry = number_at section.Stream key.Retry d }

-- how members leave and reconnect
abbrev pub serf_in : Data → Serf
serf_in d = record {
  reconnect = number_at section.Serf key.Reconnect (Some d);
  reap = number_at section.Serf key.Reap (Some d);
  linger = number_at section.Serf key.Linger (Some d);
}

-- the scenario of a document
unfoldable pub setup_of_tree : Data → Setup
setup_of_tree tree = record {
  version = version_of tree;
  seed = number_at section.Top key.Seed (Some tree);
  end = number_at section.Top key.End (Some tree);
  swim = swim_in (version_of tree) (value_at key.Swim tree);
  suspicion = suspicion_in (value_at key.Suspicion tree);
  lifeguard = lifeguard_in (value_at key.Lifeguard tree);
  link = link_in (value_at key.Link tree);
  groups = map (group_in (plain_groups tree)) (items_at key.Group tree);
  paths = map (path_in (plain_groups tree) (link_in (value_at key.Link tree))) (items_at key.Path tree);
  slows = slows_in (plain_groups tree) tree;
  crashes = crashes_in (plain_groups tree) tree;
  leaves = leaves_in (version_of tree) (plain_groups tree) tree;
  cuts = cuts_in (version_of tree) (plain_groups tree) tree;
  gossip = gossip_in (version_of tree) (value_at key.Gossip tree);
  stream = stream_in (stream_table (version_of tree) tree);
  pauses = pauses_in (version_of tree) (plain_groups tree) tree;
  restarts = restarts_in (version_of tree) (plain_groups tree) tree;
  blocks = blocks_in (version_of tree) (plain_groups tree) tree;
  queue = option_and_then queue_in (fourth_table (version_of tree) key.Gossip tree);
  dial = dial_in (fourth_table (version_of tree) key.Stream tree);
  serf = option_map serf_in (fourth_table (version_of tree) key.Serf tree);
}
