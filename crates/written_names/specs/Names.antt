-- The form of names in version 4, and which names groups may not have (rule 6).
use Rattle.std.specs.Prelude.{ℕ, ◌-◌, List, [], ◌∷◌, Bool, false, not, ◌&&◌, ◌||◌, nat_eq, nat_le, length, slice_get, bytes_eq, map}
use Rattle.std.specs.List.{list_all, list_any}
use Rattle.std.specs.Option.{option_map_or}
use Rattle.std.specs.Char.{is_ascii_alphabetic, is_ascii_digit}
use Rattle.scenario.specs.Setup.{Group}
use Rattle.scenario_reader.specs.Rules.{any_two}

abbrev pub starts_with_letter : List ℕ → Bool
starts_with_letter [] = false
starts_with_letter (first ∷ rest) = is_ascii_alphabetic first

abbrev pub is_written_byte : ℕ → Bool
is_written_byte byte = (is_ascii_alphabetic byte || is_ascii_digit byte) || (nat_eq byte 45 || nat_eq byte 95)

abbrev pub ends_with_dash : List ℕ → Bool
ends_with_dash bytes = option_map_or (λ last. nat_eq last 45) (slice_get bytes (length bytes - 1)) false

-- 1 to 32 letters, digits, `-` and `_`, the first a letter and the last not `-`
abbrev pub is_written_name : List ℕ → Bool
is_written_name name = nat_le (length name) 32 && (starts_with_letter name && (list_all is_written_byte name && not (ends_with_dash name)))

-- a group of this name may not follow these groups: the name has another form or is taken
abbrev pub breaks_name : List Group → List ℕ → Bool
breaks_name groups name = not (is_written_name name) || list_any (λ g. bytes_eq name g.name) groups

-- rule 6: a group name of another form, or two groups of one name
unfoldable pub breaks_names : List Group → Bool
breaks_names groups = list_any (λ g. not (is_written_name g.name)) groups || any_two bytes_eq (map (λ g. g.name) groups)
