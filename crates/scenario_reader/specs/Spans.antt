-- What a `Span` stands for: a slow time, without by how much, or a pause.
use Rattle.std.specs.Prelude.{List, Some}
use Rattle.std.specs.Ordering.{nat_cmp, ordering_then}
use Rattle.std.specs.declared.cmp.Ordering.{Ordering}
use Rattle.toml.specs.Data.{Data}
use Rattle.scenario.specs.Setup.{Group}
use Rattle.schema.specs.Values.{number_at}
use Rattle.schema.specs.declared.schema.FormatKey.TheVariants as key
use Rattle.schema.specs.declared.schema.Section.{Section}
use Rattle.scenario_reader.specs.Reading.{member_at}
use Rattle.scenario.specs.declared.settings.Slow.{Slow}
use Rattle.scenario_reader.specs.declared.pairs.Span.{Span}

abbrev pub slow_of : Span → Slow
slow_of s = record { member = s.member; from = s.from; until = s.until; extra = 0 }

-- the same of an item of a list of slow times or of pauses
abbrev pub span_in : Section → List Group → Data → Slow
span_in s groups d = record { member = member_at groups key.Member d; from = number_at s key.From (Some d); until = number_at s key.Until (Some d); extra = 0 }

-- spans are in the order of their members, and of one member in that of their beginnings
unfoldable pub span_cmp : Span → Span → Ordering
span_cmp a b = ordering_then (nat_cmp a.member b.member) (ordering_then (nat_cmp a.from b.from) (ordering_then (nat_cmp a.until b.until) (nat_cmp a.item b.item)))
