-- The form of a group's name.
use Rattle.std.specs.Prelude.{ℕ, ◌-◌, List, [], ◌∷◌, Bool, false, not, ◌&&◌, ◌||◌, nat_eq, nat_le, length, slice_get}
use Rattle.std.specs.List.{list_all}
use Rattle.std.specs.Option.{option_map_or}
use Rattle.std.specs.Char.{is_ascii_alphabetic, is_ascii_lowercase, is_ascii_digit}
use Rattle.schema.specs.declared.schema.Version.{Version}
use Rattle.schema.specs.declared.schema.Version.TheVariants.{One, Two, Three, Four}

abbrev pub starts_with_letter : List ℕ → Bool
starts_with_letter [] = false
starts_with_letter (first ∷ rest) = is_ascii_lowercase first

abbrev pub is_name_byte : ℕ → Bool
is_name_byte b = is_ascii_lowercase b || is_ascii_digit b

-- 1 to 16 bytes of a to z and 0 to 9, the first a letter
abbrev pub is_group_name : List ℕ → Bool
is_group_name name = (nat_le (length name) 16 && starts_with_letter name) && list_all is_name_byte name

-- ---- in version 4

abbrev pub begins_with_letter : List ℕ → Bool
begins_with_letter [] = false
begins_with_letter (first ∷ rest) = is_ascii_alphabetic first

abbrev pub is_wide_byte : ℕ → Bool
is_wide_byte byte = (is_ascii_alphabetic byte || is_ascii_digit byte) || (nat_eq byte 45 || nat_eq byte 95)

abbrev pub ends_with_dash : List ℕ → Bool
ends_with_dash bytes = option_map_or (λ last. nat_eq last 45) (slice_get bytes (length bytes - 1)) false

-- 1 to 32 letters, digits, `-` and `_`, the first a letter and the last not `-`
abbrev pub is_wide_name : List ℕ → Bool
is_wide_name name = nat_le (length name) 32 && (begins_with_letter name && (list_all is_wide_byte name && not (ends_with_dash name)))

-- the form of a group's name in a version
abbrev pub is_name_of : Version → List ℕ → Bool
is_name_of One name = is_group_name name
is_name_of Two name = is_group_name name
is_name_of Three name = is_group_name name
is_name_of Four name = is_wide_name name
