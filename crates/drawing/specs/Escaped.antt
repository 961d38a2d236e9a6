-- A text as HTML and SVG show it.
use Rattle.std.specs.Prelude.{ℕ, Bool, false, ◌||◌, ◌&&◌, ◌==◌, nat_le, if◌then◌else◌, List, ◌++◌, codes, encode_utf8}
use Rattle.std.specs.Char.{is_control}
use Rattle.std.specs.Fmt.{digits}
use Rattle.std.specs.List.{flat_map}
use Rattle.std.specs.Str.{chars}

-- the number lies between two others
abbrev pub is_between : ℕ → ℕ → ℕ → Bool
is_between low high c = nat_le low c && nat_le c high

-- The character is invisible, or turns the direction of others: the soft hyphen, the mark of Arabic letters, joiners and marks of directions, separators
-- and embeddings of directions, invisible operators and isolates, the byte order mark, and tags.
abbrev pub is_hidden_format : ℕ → Bool
is_hidden_format c =
    c == 0xAD || (c == 0x61C || (is_between 0x200B 0x200F c || (is_between 0x2028 0x202E c || (is_between 0x2060 0x206F c || (c == 0xFEFF || is_between 0xE0000 0xE007F c)))))

-- it is that, or a control character
abbrev pub is_hidden : ℕ → Bool
is_hidden c = is_control c || is_hidden_format c

-- its number in base 16, as Rust's texts escape it
unfoldable pub hidden_char : ℕ → List ℕ
hidden_char c = codes "\\u{" ++ digits 16 false c ++ codes "}"

-- a character that HTML would take for markup, by its name; one that is hidden, by its number; every other one as itself
abbrev pub escaped_char : ℕ → List ℕ
escaped_char c =
    if c == 38 then codes "&amp;"
    else if c == 60 then codes "&lt;"
    else if c == 62 then codes "&gt;"
    else if c == 34 then codes "&quot;"
    else if c == 39 then codes "&#39;"
    else if is_hidden c then hidden_char c
    else encode_utf8 c

-- each character of a text, escaped so
abbrev pub escaped : List ℕ → List ℕ
escaped text = flat_map escaped_char (chars text)

-- the byte begins or ends a tag, or a value in one
abbrev pub is_markup : ℕ → Bool
is_markup b = (b == 60 || b == 62) || (b == 34 || b == 39)

-- Markup of the page itself, which stands as it is. It is kept closed, so that proofs compare texts by their pieces, and not by bytes.
unfoldable pub markup : List ℕ → List ℕ
markup words = words
