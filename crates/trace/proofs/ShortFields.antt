-- How long the fields of a line may be, and how a line is laid before others.
use Rattle.std.proofs.Common.{◌≡◌, ◌+◌, ◌-◌, ◌<◌, ◌≤◌, ◌%◌, ◌/◌, ◌==◌, ℕ, zero, suc, List, [], ◌∷◌, ◌++◌, Bool, true, false, ◌&&◌, cond, codes, length, get_or, map, drop, drop-cons, add-one, refl, sym, ap, ◌∙◌, append_assoc, arith, flat_map, unwrap_or}
use Rattle.std.specs.Fmt.{decimal, digits, digits_onto, digit_glyph}
use Rattle.std.specs.List.{list_all, join_with_byte, slice_get, range_with_len, AllByRecursion}
use Rattle.std.proofs.lemmas.Bool.{false≢true}
use Rattle.std.proofs.lemmas.List.{length-append, drop-drop, drop-append-le}
use Rattle.base.proofs.Rising.{all_append}
use Rattle.scenario.proofs.Names.{short_name}
use Rattle.scenario.specs.GroupNames.{is_name_of}
use Rattle.scenario.specs.Setup.{Setup, Group, names_in, member_names, name_of, IsSound}
use Rattle.trace.specs.declared.row.Row.{Row}
use Rattle.trace.specs.Text.{fields_of, line_of, rows_text}

both : (a b : Bool) → (a && b) ≡ true → (a ≡ true) × (b ≡ true)
both true b e = (refl, e)
both false b e = absurd (false≢true e)

-- ---- numbers

either_short : (b : Bool) (xs ys : List ℕ) (n : ℕ) → length xs ≤ n → length ys ≤ n → length (cond b xs ys) ≤ n
either_short true xs ys n p q = p
either_short false xs ys n p q = q

onto_short : (k n : ℕ) (after : List ℕ) → length (digits_onto k 10 false n after) ≤ k + length after
onto_short zero n after = omega arith
onto_short (suc k) n after =
    let next = digit_glyph false (n % 10) ∷ after in
    let more : length (digits_onto k 10 false (n / 10) next) ≤ k + length next = onto_short k (n / 10) next in
    either_short (n / 10 == 0) next (digits_onto k 10 false (n / 10) next) (suc k + length after) (omega arith) (omega (arith, more))

decimal_short : (n : ℕ) → length (decimal n) ≤ 64
unfolding digits
decimal_short n = onto_short 64 n []

-- ---- names

abbrev IsShort : List ℕ → Type 0
IsShort name = length name ≤ 97

indexed_short : (name : List ℕ) → length name ≤ 32 → (indices : List ℕ) → AllByRecursion IsShort (map (λ i. name ++ codes "-" ++ decimal i) indices)
indexed_short name p [] = tt
indexed_short name p (i ∷ indices) = (omega (arith, p, length-append (name ++ codes "-") (decimal i), length-append name (codes "-"), decimal_short i), indexed_short name p indices)

names_short : (form : List ℕ → Bool) → ((name : List ℕ) → form name ≡ true → length name ≤ 32) → (gs : List Group) → list_all (λ (g : Group). form g.name) gs ≡ true → AllByRecursion IsShort (flat_map names_in gs)
names_short form short [] h = tt
names_short form short (g ∷ gs) h =
    let parts = both (form g.name) (list_all (λ (g : Group). form g.name) gs) h in
    all_append IsShort (names_in g) (flat_map names_in gs) (indexed_short g.name (short g.name parts.0) (range_with_len 0 g.count)) (names_short form short gs parts.1)

at_place : (names : List (List ℕ)) → AllByRecursion IsShort names → (place : ℕ) → IsShort (unwrap_or (slice_get names place) [])
at_place [] p place = omega arith
at_place (name ∷ names) p zero = p.0
at_place (name ∷ names) p (suc place) = at_place names p.1 place

pub name_short : (s : Setup) → IsSound s → (m : ℕ) → length (name_of s m) ≤ 97
name_short s sound m = at_place (member_names s) (names_short (is_name_of s.version) (short_name s.version) s.groups sound.names) m

-- ---- lines

-- a field and a comma before the fields that are laid
pub one_more : (tail whole first first' rest rest' : List ℕ) → whole ≡ first ++ 44 ∷ rest → first ≡ first' → rest ≡ rest' ++ tail → whole ≡ (first' ++ 44 ∷ rest') ++ tail
one_more tail whole first first' rest rest' laid same others =
    laid ∙ ap (λ f. f ++ 44 ∷ rest) same ∙ ap (λ r. first' ++ 44 ∷ r) others ∙ sym (append_assoc first' (44 ∷ rest') tail)

-- a row's fields before a line feed
pub line_laid : (s : Setup) (row : Row) (tail whole rest : List ℕ) → whole ≡ join_with_byte 44 (fields_of s row) ++ rest → rest ≡ 10 ∷ tail → whole ≡ line_of s row ++ tail
unfolding line_of
line_laid s row tail whole rest laid ended =
    laid ∙ ap (λ r. join_with_byte 44 (fields_of s row) ++ r) ended ∙ sym (append_assoc (join_with_byte 44 (fields_of s row)) (codes "\n") tail)

-- a row's line before those of the rows behind it
pub row_laid : (s : Setup) (rows : List Row) (place : ℕ) (row : Row) → place < length rows → row ≡ get_or rows place row → (whole later : List ℕ)
    → whole ≡ line_of s row ++ later → later ≡ rows_text s (drop (place + 1) rows) → whole ≡ rows_text s (drop place rows)
row_laid s rows place row within is whole later laid others =
    laid ∙ ap (λ l. line_of s row ++ l) others
    ∙ sym (ap (rows_text s) (drop-cons rows place row within ∙ ap (λ r. r ∷ drop (suc place) rows) (sym is) ∙ ap (λ n. row ∷ drop n rows) (sym (add-one place))))

-- ---- labels

-- the last bytes of a label that is laid, before what stands behind it
pub label_laid : (room label tail : List ℕ) (start end held : ℕ) → start + 16 ≡ end → held ≤ 16 → length label ≡ 16 → drop start room ≡ label ++ tail
    → drop (end - held) room ≡ drop (16 - held) label ++ tail
label_laid room label tail start end held begins within sized laid =
    ap (λ n. drop n room) (omega (arith, begins, within)) ∙ sym (drop-drop (16 - held) start room) ∙ ap (drop (16 - held)) laid ∙ drop-append-le (16 - held) label tail (omega (arith, sized))
