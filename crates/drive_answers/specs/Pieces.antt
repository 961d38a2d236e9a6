-- The tokens of a JSON text as they stand there: without the blanks, commas and colons between them, and with the escapes in them.
use Rattle.std.specs.Prelude.{ℕ, List, [], ◌∷◌, ◌++◌, ◌==◌, ◌||◌, if◌then◌else◌}
use Rattle.json.specs.Ascii as ascii
use Rattle.json.specs.Lex.{Class, quote, backslash, operator, space, class, Mode, between, in_word, in_string, in_escape}

abbrev pub Piece : Type 0
Piece = List ℕ

-- a bracket is a token; a comma and a colon are none
abbrev pub bracket : ℕ → List Piece
bracket x = if (x == ascii.comma) || (x == ascii.colon) then [] else (x ∷ []) ∷ []

-- where in a token the text stands behind a byte of this class
abbrev pub mode_after : Mode → Class → Mode
mode_after between quote = in_string
mode_after between operator = between
mode_after between space = between
mode_after between _ = in_word
mode_after in_word quote = in_string
mode_after in_word operator = between
mode_after in_word space = between
mode_after in_word _ = in_word
mode_after in_string quote = between
mode_after in_string backslash = in_escape
mode_after in_string _ = in_string
mode_after in_escape _ = in_string

-- the byte x by itself, where it is a token
abbrev pub alone : Class → ℕ → List Piece
alone operator x = bracket x
alone _ x = []

-- the tokens that end before or with the byte x, of which the first had this beginning
abbrev pub ended : Mode → Class → ℕ → Piece → List Piece
ended between c x piece = alone c x
ended in_word quote x piece = piece ∷ []
ended in_word operator x piece = piece ∷ bracket x
ended in_word space x piece = piece ∷ []
ended in_word _ x piece = []
ended in_string quote x piece = (piece ++ x ∷ []) ∷ []
ended in_string _ x piece = []
ended in_escape _ x piece = []

-- the beginning of the token in which the text stands behind the byte x
abbrev pub begun : Mode → Class → ℕ → Piece → Piece
begun between operator x piece = []
begun between space x piece = []
begun between _ x piece = x ∷ []
begun in_word quote x piece = x ∷ []
begun in_word operator x piece = []
begun in_word space x piece = []
begun in_word _ x piece = piece ++ x ∷ []
begun in_string quote x piece = []
begun in_string _ x piece = piece ++ x ∷ []
begun in_escape _ x piece = piece ++ x ∷ []

-- what has begun at the end of a text is its last token
abbrev pub last_piece : Mode → Piece → List Piece
last_piece between piece = []
last_piece _ piece = piece ∷ []

unfoldable pub pieces_from : Mode → Piece → List ℕ → List Piece
pieces_from mode piece [] = last_piece mode piece
pieces_from mode piece (x ∷ xs) = ended mode (class x) x piece ++ pieces_from (mode_after mode (class x)) (begun mode (class x) x piece) xs

abbrev pub pieces : List ℕ → List Piece
pieces text = pieces_from between [] text
