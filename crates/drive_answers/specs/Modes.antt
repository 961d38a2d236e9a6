-- What the code that cuts a text holds: the class of a byte, a mode, and where the token that it stands in begins.
use Rattle.std.specs.Prelude.{ℕ, Bool, true, false, List, [], map, slice_range}
use Rattle.std.specs.Borrow.{Bor}
use Rattle.json.specs.Lex as lex
use Rattle.drive_answers.specs.declared.pieces.Class.{Class}
use Rattle.drive_answers.specs.declared.pieces.Class.TheVariants.{Quote, Backslash, Operator, Space, Other}
use Rattle.drive_answers.specs.declared.pieces.Mode.{Mode}
use Rattle.drive_answers.specs.declared.pieces.Mode.TheVariants.{Between, InWord, InString, InEscape}
use Rattle.drive_answers.specs.Pieces.{Piece}

abbrev pub class_in : Class → lex.Class
class_in Quote = lex.quote
class_in Backslash = lex.backslash
class_in Operator = lex.operator
class_in Space = lex.space
class_in Other = lex.other

abbrev pub mode_of : Mode → lex.Mode
mode_of Between = lex.between
mode_of InWord = lex.in_word
mode_of InString = lex.in_string
mode_of InEscape = lex.in_escape

abbrev pub held_mode : lex.Mode → Mode
held_mode lex.between = Between
held_mode lex.in_word = InWord
held_mode lex.in_string = InString
held_mode lex.in_escape = InEscape

-- whether a token begins with the byte between these two
abbrev pub is_begun : Mode → Mode → Bool
is_begun Between Between = false
is_begun Between InWord = true
is_begun Between InString = true
is_begun Between InEscape = true
is_begun InWord InString = true
is_begun InWord _ = false
is_begun InString _ = false
is_begun InEscape _ = false

-- the beginning of the token, up to a place
abbrev pub begun_at : Mode → ℕ → ℕ → List ℕ → Piece
begun_at Between begun place text = []
begun_at _ begun place text = slice_range text begun place

-- slices as texts
abbrev pub texts_of : List (Bor (List ℕ)) → List Piece
texts_of slices = map (λ s. s.now) slices
