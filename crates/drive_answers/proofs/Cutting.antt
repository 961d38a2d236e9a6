-- A text is cut into its tokens, byte by byte.
use Rattle.std.proofs.Common.{◌≡◌, ℕ, Bool, true, false, ◌+◌, ◌-◌, ◌<◌, ◌≤◌, cond, List, [], ◌∷◌, ◌++◌, length, get_or, take, drop, ap, ◌∙◌, sym, refl, arith, length-drop}
use Rattle.std.specs.Prelude.{slice_range}
use Rattle.std.proofs.lemmas.List.{take_more, drop_more, drop_all, get_or-drop}
use Rattle.json.specs.Lex.{Class, quote, backslash, operator, space, other, class}
use Rattle.json.specs.Lex as lex
use Rattle.drive_answers.specs.declared.pieces.Mode.{Mode}
use Rattle.drive_answers.specs.declared.pieces.Mode.TheVariants.{Between, InWord, InString, InEscape}
use Rattle.drive_answers.specs.Modes.{mode_of, held_mode, is_begun, begun_at}
use Rattle.drive_answers.specs.Pieces.{mode_after, ended, begun, last_piece, pieces_from}

-- a slice with one byte more
pub grown : (text : List ℕ) (from place : ℕ) → from ≤ place → place < length text → slice_range text from place ++ get_or text place 0 ∷ [] ≡ slice_range text from (place + 1)
grown text from place order within =
    let one : place + 1 - from ≡ (place - from) + 1 = omega arith in
    let there : from + (place - from) ≡ place = omega arith in
    ap (λ x. take (place - from) (drop from text) ++ x ∷ []) (sym (get_or-drop from text (place - from) 0 ∙ ap (λ n. get_or text n 0) there))
    ∙ sym (take_more (drop from text) (place - from) 0 (omega (arith, length-drop from text)))
    ∙ ap (λ n. take n (drop from text)) (sym one)

-- a slice of one byte
one_byte : (text : List ℕ) (place : ℕ) → place < length text → get_or text place 0 ∷ [] ≡ slice_range text place (place + 1)
one_byte text place within =
    let none : place - place ≡ 0 = omega arith in
    ap (λ n. take n (drop place text) ++ get_or text place 0 ∷ []) (sym none) ∙ grown text place place (omega arith) within

-- the beginning of a token behind one byte more
begun_more : (mode : Mode) (c : Class) (text : List ℕ) (from place : ℕ) → from ≤ place → place < length text
    → begun (mode_of mode) c (get_or text place 0) (begun_at mode from place text)
    ≡ begun_at (held_mode (mode_after (mode_of mode) c)) (cond (is_begun mode (held_mode (mode_after (mode_of mode) c))) place from) (place + 1) text
begun_more Between quote text from place order within = one_byte text place within
begun_more Between backslash text from place order within = one_byte text place within
begun_more Between operator text from place order within = refl
begun_more Between space text from place order within = refl
begun_more Between other text from place order within = one_byte text place within
begun_more InWord quote text from place order within = one_byte text place within
begun_more InWord backslash text from place order within = grown text from place order within
begun_more InWord operator text from place order within = refl
begun_more InWord space text from place order within = refl
begun_more InWord other text from place order within = grown text from place order within
begun_more InString quote text from place order within = refl
begun_more InString backslash text from place order within = grown text from place order within
begun_more InString operator text from place order within = grown text from place order within
begun_more InString space text from place order within = grown text from place order within
begun_more InString other text from place order within = grown text from place order within
begun_more InEscape quote text from place order within = grown text from place order within
begun_more InEscape backslash text from place order within = grown text from place order within
begun_more InEscape operator text from place order within = grown text from place order within
begun_more InEscape space text from place order within = grown text from place order within
begun_more InEscape other text from place order within = grown text from place order within

held_back : (m : lex.Mode) → mode_of (held_mode m) ≡ m
held_back lex.between = refl
held_back lex.in_word = refl
held_back lex.in_string = refl
held_back lex.in_escape = refl

held_there : (m : Mode) → held_mode (mode_of m) ≡ m
held_there Between = refl
held_there InWord = refl
held_there InString = refl
held_there InEscape = refl

-- The tokens that are still to come, one byte on: those that end there, and those behind it.
pub cut_more : (mode next : Mode) (text : List ℕ) (from place : ℕ) → from ≤ place → place < length text → mode_of next ≡ mode_after (mode_of mode) (class (get_or text place 0))
    → pieces_from (mode_of mode) (begun_at mode from place text) (drop place text)
    ≡ ended (mode_of mode) (class (get_or text place 0)) (get_or text place 0) (begun_at mode from place text)
    ++ pieces_from (mode_of next) (begun_at next (cond (is_begun mode next) place from) (place + 1) text) (drop (place + 1) text)
unfolding pieces_from
cut_more mode next text from place order within after =
    let x = get_or text place 0 in
    let later = drop (place + 1) text in
    let first = ended (mode_of mode) (class x) x (begun_at mode from place text) in
    let same : held_mode (mode_after (mode_of mode) (class x)) ≡ next = ap held_mode (sym after) ∙ held_there next in
    let piece : begun (mode_of mode) (class x) x (begun_at mode from place text) ≡ begun_at next (cond (is_begun mode next) place from) (place + 1) text =
    begun_more mode (class x) text from place order within ∙ ap (λ m. begun_at m (cond (is_begun mode m) place from) (place + 1) text) same in
    ap (pieces_from (mode_of mode) (begun_at mode from place text)) (drop_more text place 0 within)
    ∙ ap (λ m. first ++ pieces_from m (begun (mode_of mode) (class x) x (begun_at mode from place text)) later) (sym after)
    ∙ ap (λ p. first ++ pieces_from (mode_of next) p later) piece

-- At the end of the text stands its last token.
pub cut_end : (mode : Mode) (text : List ℕ) (from place : ℕ) → place ≡ length text
    → pieces_from (mode_of mode) (begun_at mode from place text) (drop place text) ≡ last_piece (mode_of mode) (begun_at mode from (length text) text)
unfolding pieces_from
cut_end mode text from place is =
    ap (λ n. pieces_from (mode_of mode) (begun_at mode from n text) (drop n text)) is ∙ ap (pieces_from (mode_of mode) (begun_at mode from (length text) text)) (drop_all (length text) text (omega arith))

pub begun_within : (begins : Bool) (from place : ℕ) → from ≤ place → cond begins place from ≤ place + 1
begun_within true from place order = omega arith
begun_within false from place order = omega arith
