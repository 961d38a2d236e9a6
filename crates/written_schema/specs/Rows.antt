-- The keys of a text of version 4, outside its six lists about members: version 3's rows, with the kinds of version 4, and those
-- that version 4 adds.
use Rattle.std.specs.Prelude.{ℕ, ◌^◌, List, [], ◌∷◌, ◌++◌, map, codes}
use Rattle.schema.specs.Schema.{key_rules_of, spelling_of}
use Rattle.schema.specs.declared.schema.Version.TheVariants.{Three}
use Rattle.schema.specs.declared.schema.FormatKey.{FormatKey}
use Rattle.schema.specs.declared.schema.FormatKey.TheVariants as key
use Rattle.schema.specs.declared.schema.Section.{Section}
use Rattle.schema.specs.declared.schema.Section.TheVariants as section
use Rattle.schema.specs.declared.schema.Kind.{Kind}
use Rattle.schema.specs.declared.schema.Kind.TheVariants as kind
use Rattle.schema.specs.declared.schema.KeyRule.{KeyRule}
use Rattle.schema.specs.declared.schema.Absence.TheVariants.{Default, Off, Optional}
use Rattle.plain_document.specs.Keys.{kind_of}
use Rattle.plain_document.specs.declared.keys.KeyKind.{KeyKind}
use Rattle.plain_document.specs.declared.keys.KeyKind.TheVariants as value
use Rattle.written_schema.specs.declared.rows.AddedKey.{AddedKey}
use Rattle.written_schema.specs.declared.rows.AddedKey.TheVariants as added
use Rattle.written_schema.specs.declared.rows.WrittenKey.{WrittenKey}
use Rattle.written_schema.specs.declared.rows.WrittenKey.TheVariants.{Known, Added}
use Rattle.written_schema.specs.declared.rows.WrittenSection.{WrittenSection}
use Rattle.written_schema.specs.declared.rows.WrittenSection.TheVariants as written
use Rattle.written_schema.specs.declared.rows.WrittenKind.{WrittenKind}
use Rattle.written_schema.specs.declared.rows.WrittenKind.TheVariants.{Ticks, Share, Tick, Whole, Switch, Text, Table, List as ListOf, Script}
use Rattle.written_schema.specs.declared.rows.WrittenRow.{WrittenRow}

-- ---- how keys are spelt

abbrev pub added_spelling : AddedKey → List ℕ
added_spelling added.Tick = codes "tick"
added_spelling added.Restart = codes "restart"
added_spelling added.Block = codes "block"
added_spelling added.Serf = codes "serf"
added_spelling added.Both = codes "both"
added_spelling added.Queue = codes "queue"
added_spelling added.Packet = codes "packet"
added_spelling added.Meta = codes "meta"
added_spelling added.Limit = codes "limit"
added_spelling added.Retry = codes "retry"
added_spelling added.Reconnect = codes "reconnect"
added_spelling added.Reap = codes "reap"
added_spelling added.Linger = codes "linger"

abbrev pub key_text : WrittenKey → List ℕ
key_text (Known key) = spelling_of key
key_text (Added key) = added_spelling key

-- ---- version 3's rows

-- the upper end of a range: 4 of `version`, 16,384 of a group's `count`, else as in version 3
abbrev pub most_of : FormatKey → ℕ → ℕ
most_of key.Version most = 4
most_of key.Count most = 16384
most_of key most = most

-- a whole number that may be a length, or a share
abbrev pub number_kind : KeyKind → (least most : ℕ) → WrittenKind
number_kind value.Ticks least most = Ticks least most
number_kind value.Share least most = Share
number_kind value.Plain least most = Whole least most
number_kind value.Gone least most = Whole least most

-- the table of that kind
abbrev pub section_of : Section → WrittenSection
section_of section.Swim = written.Swim
section_of section.Suspicion = written.Suspicion
section_of section.Lifeguard = written.Lifeguard
section_of section.Link = written.Link
section_of section.Gossip = written.Gossip
section_of section.Stream = written.Stream
section_of section.Group = written.Group
section_of section.Path = written.Path
section_of section.Cut = written.Cut
section_of s = written.Top

-- a list of groups, paths or cuts; else one of the six lists
abbrev pub list_kind : Section → WrittenKind
list_kind section.Group = ListOf written.Group
list_kind section.Path = ListOf written.Path
list_kind section.Cut = ListOf written.Cut
list_kind s = Script

abbrev pub written_kind : (name : List ℕ) → FormatKey → Kind → WrittenKind
written_kind name key (kind.Whole least most) = number_kind (kind_of name (spelling_of key)) least (most_of key most)
written_kind name key kind.Switch = Switch
written_kind name key kind.Text = Text
written_kind name key (kind.Table s) = Table (section_of s)
written_kind name key (kind.List s) = list_kind s

-- a row of version 3 in a table of this name
abbrev pub written_row : (name : List ℕ) → KeyRule → WrittenRow
written_row name row = record { key = Known row.key; absence = row.absence; kind = written_kind name row.key row.kind }

abbrev pub known_rows : (name : List ℕ) → Section → List WrittenRow
known_rows name s = map (written_row name) (key_rules_of Three s)

-- ---- what version 4 adds

-- a switch that is off where it isn't there
abbrev off : AddedKey → WrittenRow
off key = record { key = Added key; absence = Off; kind = Switch }

-- a number that has a default
abbrev or_else : ℕ → AddedKey → WrittenKind → WrittenRow
or_else default key values = record { key = Added key; absence = Default default; kind = values }

-- a key that may be left out
abbrev optional : AddedKey → WrittenKind → WrittenRow
optional key values = record { key = Added key; absence = Optional; kind = values }

-- ---- all rows of a kind of table

unfoldable pub rows_of : WrittenSection → List WrittenRow
rows_of written.Top =
    known_rows (codes "") section.Top
    ++ optional added.Tick Tick
    ∷ optional added.Restart Script
    ∷ optional added.Block Script
    ∷ optional added.Serf (Table written.Serf)
    ∷ []
rows_of written.Swim = known_rows (codes "swim") section.Swim
rows_of written.Suspicion = known_rows (codes "suspicion") section.Suspicion
rows_of written.Lifeguard = known_rows (codes "lifeguard") section.Lifeguard
rows_of written.Link = known_rows (codes "link") section.Link
rows_of written.Group = known_rows (codes "group") section.Group
rows_of written.Path = known_rows (codes "path") section.Path ++ off added.Both ∷ []
rows_of written.Cut = known_rows (codes "cut") section.Cut ++ off added.Both ∷ []
rows_of written.Gossip =
    known_rows (codes "gossip") section.Gossip
    ++ off added.Queue
    ∷ or_else 0 added.Packet (Whole 0 65507)
    ∷ or_else 0 added.Meta (Whole 0 512)
    ∷ []
rows_of written.Stream =
    known_rows (codes "stream") section.Stream
    ++ or_else 10000 added.Limit (Ticks 1 (2 ^ 24))
    ∷ or_else 30000 added.Retry (Ticks 1 (2 ^ 24))
    ∷ []
rows_of written.Serf =
    or_else 30000 added.Reconnect (Ticks 1 (2 ^ 24))
    ∷ or_else 86400000 added.Reap (Ticks 0 (2 ^ 40))
    ∷ or_else 1000 added.Linger (Ticks 1 (2 ^ 24))
    ∷ []
