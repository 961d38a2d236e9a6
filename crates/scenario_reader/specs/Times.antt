-- The tests of rule 9 on the items of a document, whose names are known.
use Rattle.std.specs.Prelude.{Bool, false, ◌||◌, List, nat_eq, nat_lt, nat_le, option_and_then}
use Rattle.std.specs.Option.{option_map_or}
use Rattle.std.specs.Prelude.{Some}
use Rattle.toml.specs.Data.{Data}
use Rattle.schema.specs.Values.{number_at, text_if, text_at}
use Rattle.schema.specs.declared.schema.FormatKey.TheVariants as key
use Rattle.schema.specs.declared.schema.Section.{Section}
use Rattle.schema.specs.declared.schema.Section.TheVariants as section
use Rattle.scenario.specs.Setup.{Group}
use Rattle.scenario_reader.specs.Reading.{member_named, restart_in}
use Rattle.scenario_reader.specs.Rules.{asks_itself}
use Rattle.scenario_reader.specs.Roster.{start_in}

-- a contact of a group that starts at moment 0, or one that itself starts later
abbrev pub is_bad_contact_in : List Group → Data → Bool
is_bad_contact_in groups d =
    option_map_or (λ c. nat_eq (number_at section.Group key.Start (Some d)) 0 || nat_lt 0 (start_in groups c)) (option_and_then (member_named groups) (text_if key.Contact d)) false

-- a slow time or a pause that is over when it begins
abbrev pub is_over_in : Section → Data → Bool
is_over_in s d = nat_le (number_at s key.Until (Some d)) (number_at s key.From (Some d))

-- a crash or a leave that isn't after its member's start
abbrev pub is_early_in : List Group → Data → Bool
is_early_in groups d = option_map_or (λ m. nat_le (number_at section.Departure key.At (Some d)) (start_in groups m)) (member_named groups (text_at key.Member d)) false

-- a cut that is over when it begins
abbrev pub is_cut_over_in : Data → Bool
is_cut_over_in d = nat_le (number_at section.Cut key.Until (Some d)) (number_at section.Cut key.At (Some d))

-- a restart that isn't after its member's start
abbrev pub is_early_restart_in : List Group → Data → Bool
is_early_restart_in groups d = option_map_or (λ m. nat_le (number_at section.Restart key.At (Some d)) (start_in groups m)) (member_named groups (text_at key.Member d)) false

-- a restart whose contact is its member
abbrev pub asks_itself_in : List Group → Data → Bool
asks_itself_in groups d = asks_itself (restart_in groups d)
