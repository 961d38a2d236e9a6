-- What a line shows of a name.
use Rattle.std.specs.Prelude.{ℕ, List, ◌++◌, Bool, ◌||◌, ◌&&◌, ◌==◌, nat_le, false, if◌then◌else◌, codes, encode_utf8}
use Rattle.std.specs.Char.{is_control}
use Rattle.std.specs.Fmt.{digits}
use Rattle.std.specs.List.{flat_map}
use Rattle.std.specs.Str.{chars}

-- the number is one of those from the first to the last
abbrev pub is_within : ℕ → ℕ → ℕ → Bool
is_within first last c = nat_le first c && nat_le c last

-- The character isn't seen where it stands: it has no width and joins or marks what stands round it, separates lines or paragraphs, turns the direction
-- of writing, or is a tag.
abbrev pub is_unseen : ℕ → Bool
is_unseen c =
    is_within 0x200b 0x200f c || is_within 0x2028 0x202e c || is_within 0x2066 0x2069 c || c == 0xfeff || is_within 0xe0000 0xe007f c

-- the character can end the line or change what is seen of it
abbrev pub breaks_line : ℕ → Bool
breaks_line c = is_control c || is_unseen c

-- its number in base 16
abbrev pub escaped_number : ℕ → List ℕ
escaped_number c = codes "\\u{" ++ digits 16 false c ++ codes "}"

-- the character as Rust's texts escape it, where it breaks a line or is what escapes begin with; else itself
abbrev pub shown_char : ℕ → List ℕ
shown_char c =
    if c == 9 then codes "\\t"
    else if c == 10 then codes "\\n"
    else if c == 13 then codes "\\r"
    else if c == 92 then codes "\\\\"
    else if breaks_line c then escaped_number c
    else encode_utf8 c

-- each character of the name, shown so
abbrev pub shown_name : List ℕ → List ℕ
shown_name name = flat_map shown_char (chars name)
