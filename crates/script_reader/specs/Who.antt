-- Whom an item is about, by the numbers of members.
use Rattle.std.specs.Prelude.{ℕ, ◌+◌, if◌then◌else◌, List, [], ◌∷◌, length, map, flat_map, codes, is_some, nat_le, bytes_eq, string_bytes, Option, Some, None, option_and_then}
use Rattle.std.specs.List.{range_with_len}
use Rattle.toml.specs.Data.{Data, as_str, get}
use Rattle.scenario.specs.Setup.{Group}
use Rattle.scenario_reader.specs.Reading.{member_named}
use Rattle.written_names.specs.declared.roster.WrittenGroup.{WrittenGroup}
use Rattle.script_reader.specs.declared.who.Span.{Span}
use Rattle.script_reader.specs.Values.{members_of, text_at}

-- all members of these groups
abbrev pub member_total : List WrittenGroup → ℕ
member_total [] = 0
member_total (group ∷ groups) = group.count + member_total groups

-- the member of a name, if it is one's
abbrev pub found : List Group → Option (List ℕ) → Option ℕ
found groups name = option_and_then (member_named groups) name

abbrev pub alone : Option ℕ → List ℕ
alone None = []
alone (Some member) = member ∷ []

abbrev pub found_in : List Group → Data → List ℕ
found_in groups d = alone (found groups (as_str d))

-- the members of these names; none where a text can't have so many
abbrev pub named_in : List Group → List Data → List ℕ
named_in groups names = if nat_le (length names) 16384 then flat_map (found_in groups) names else []

-- the members of the first group of a name, the number of whose first member is this one
abbrev pub span_of : ℕ → List WrittenGroup → List ℕ → Span
span_of first [] name = record { first = 0; count = 0 }
span_of first (group ∷ groups) name =
    if bytes_eq (string_bytes group.name) name then record { first = first; count = group.count } else span_of (first + group.count) groups name

abbrev pub span_at : List WrittenGroup → Option (List ℕ) → Span
span_at groups None = record { first = 0; count = 0 }
span_at groups (Some name) = span_of 0 groups name

abbrev pub in_span : Span → List ℕ
in_span span = map (λ k. span.first + k) (range_with_len 0 span.count)

-- its member; or its members, in their order; or all of its group. Who isn't there is left out: the item breaks rule 7
abbrev pub members_by : List Group → List WrittenGroup → Option (List ℕ) → Data → List ℕ
members_by roster groups (Some name) d = alone (member_named roster name)
members_by roster groups None d =
    if is_some (get (codes "members") d) then named_in roster (members_of d) else in_span (span_at groups (text_at (codes "group") d))

abbrev pub members_in : List Group → List WrittenGroup → Data → List ℕ
members_in roster groups d = members_by roster groups (text_at (codes "member") d) d

-- whom one asks who starts again, if the item says so
abbrev pub contact_of : List Group → Data → Option ℕ
contact_of roster d = found roster (text_at (codes "contact") d)
