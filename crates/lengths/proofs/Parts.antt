-- The parts of a length: how a text is cut into them, and that a word is one length.
use Rattle.std.proofs.Common.{◌≡◌, ℕ, ◌+◌, ◌*◌, ◌<◌, inl, inr, Bool, true, not, List, [], ◌∷◌, ◌++◌, length, length-append, append_assoc, get_or, take, drop, take_at, nat_lt, nat_eq, if◌then◌else◌, refl, sym, ap, subst, ◌∙◌, arith}
use Rattle.std.specs.Char.{is_ascii_digit}
use Rattle.std.specs.List.{prefix_len}
use Rattle.std.specs.Str.{all_ascii_digits}
use Rattle.std.proofs.lemmas.Bool.Decides.{nat_tests}
use Rattle.std.proofs.lemmas.List.{drop_at, append_cancel_right}
use Rattle.lengths.specs.declared.unit.Unit.{Unit}
use Rattle.lengths.specs.declared.unit.Unit.TheVariants.{Microsecond, Millisecond, Second, Minute, Hour, Day}
use Rattle.lengths.specs.Numerals.{is_number_byte, pointed, IsNumeral}
use Rattle.lengths.specs.Lengths.{unit_word, unit_length, units, may_end, are_smaller, IsPart, AreParts, IsLength, IsShare}
use Rattle.lengths.proofs.Numerals.{both, next_stops, append_passes, same_numeral, word_passes}

-- ---- names of units

is_letter : ℕ → Bool
is_letter byte = not (is_ascii_digit byte)

unit_stops : (unit : Unit) (rest : List ℕ) → prefix_len is_number_byte (unit_word unit ++ rest) ≡ 0
unit_stops Microsecond rest = refl
unit_stops Millisecond rest = refl
unit_stops Second rest = refl
unit_stops Minute rest = refl
unit_stops Hour rest = refl
unit_stops Day rest = refl

unit_letters : (unit : Unit) → prefix_len is_letter (unit_word unit) ≡ length (unit_word unit)
unfolding is_letter
unit_letters Microsecond = refl
unit_letters Millisecond = refl
unit_letters Second = refl
unit_letters Minute = refl
unit_letters Hour = refl
unit_letters Day = refl

ends_letters : (rest : List ℕ) → may_end rest ≡ true → prefix_len is_letter rest ≡ 0
unfolding is_letter
ends_letters [] ends = refl
ends_letters (b ∷ bs) ends = next_stops is_letter b bs (ap not ends)

named : List ℕ → Unit
named word =
    if nat_eq (get_or word 0 0) 100 then Day
    else if nat_eq (get_or word 0 0) 104 then Hour
    else if nat_eq (get_or word 0 0) 115 then Second
    else if nat_eq (get_or word 0 0) 117 then Microsecond
    else if nat_eq (length word) 2 then Millisecond
    else Minute

name_of : (unit : Unit) → named (unit_word unit) ≡ unit
unfolding named
name_of Microsecond = refl
name_of Millisecond = refl
name_of Second = refl
name_of Minute = refl
name_of Hour = refl
name_of Day = refl

-- a text begins with the name of one unit, where a part may end behind it
unit_one : (u v : Unit) (r s : List ℕ) → may_end r ≡ true → may_end s ≡ true → unit_word u ++ r ≡ unit_word v ++ s → (u ≡ v) × (r ≡ s)
unit_one u v r s r_ends s_ends same =
    let first = append_passes is_letter (unit_word u) r (unit_letters u) in
    let second = append_passes is_letter (unit_word v) s (unit_letters v) in
    let first_stops = ends_letters r r_ends in
    let second_stops = ends_letters s s_ends in
    let count : prefix_len is_letter (unit_word u ++ r) ≡ prefix_len is_letter (unit_word v ++ s) = ap (prefix_len is_letter) same in
    let long : length (unit_word v) ≡ length (unit_word u) = omega (arith, first, second, first_stops, second_stops, count) in
    let words : unit_word u ≡ unit_word v =
    sym (take_at (unit_word u) r (length (unit_word u)) refl) ∙ ap (take (length (unit_word u))) same ∙ take_at (unit_word v) s (length (unit_word u)) long in
    let rests : r ≡ s =
    sym (drop_at (unit_word u) r (length (unit_word u)) refl) ∙ ap (drop (length (unit_word u))) same ∙ drop_at (unit_word v) s (length (unit_word u)) long in
    (sym (name_of u) ∙ ap named words ∙ name_of v, rests)

-- ---- one part

module _ (unit : Unit) (text rest : List ℕ) (total : ℕ) (is : IsPart unit text rest total) where
  -- the number is the digits and points that come first
  pub part_cut : (n : ℕ) → n ≡ prefix_len is_number_byte text → (take n text ≡ is.word) × (drop n text ≡ unit_word unit ++ rest)
  part_cut n count =
      let cut = append_passes is_number_byte is.word (unit_word unit ++ rest) (word_passes 12 6 is.word is.number is.is) in
      let at : prefix_len is_number_byte text ≡ prefix_len is_number_byte (is.word ++ (unit_word unit ++ rest)) = ap (prefix_len is_number_byte) (sym is.written) in
      let stops = unit_stops unit rest in
      let long : length is.word ≡ n = omega (arith, cut, at, stops, count) in
      (ap (take n) (sym is.written) ∙ take_at is.word (unit_word unit ++ rest) n long, ap (drop n) (sym is.written) ∙ drop_at is.word (unit_word unit ++ rest) n long)

pub one_part : (u v : Unit) (text r s : List ℕ) (a b : ℕ) → IsPart u text r a → IsPart v text s b → may_end r ≡ true → may_end s ≡ true
    → (u ≡ v) × (r ≡ s) × (a ≡ b)
one_part u v text r s a b p q r_ends s_ends =
    let first = part_cut u text r a p (prefix_len is_number_byte text) refl in
    let second = part_cut v text s b q (prefix_len is_number_byte text) refl in
    let words : p.word ≡ q.word = sym first.0 ∙ second.0 in
    let same = unit_one u v r s r_ends s_ends (sym first.1 ∙ second.1) in
    let numbers : p.number ≡ q.number = same_numeral 12 6 q.word p.number q.number (subst (λ (word : List ℕ). IsNumeral 12 6 word p.number) words p.is) q.is in
    (same.0, same.1, p.counts ∙ ap (λ (n : ℕ). n * unit_length u) numbers ∙ ap (λ (unit : Unit). q.number * unit_length unit) same.0 ∙ sym q.counts)

digit_first : (whole more : List ℕ) → all_ascii_digits whole ≡ true → 0 < length whole → may_end (whole ++ more) ≡ true
digit_first [] more all some = absurd (omega arith)
digit_first (c ∷ cs) more all some = (both (is_ascii_digit c) (all_ascii_digits cs) all).0

-- a part begins with a digit
part_begins : (unit : Unit) (text rest : List ℕ) (total : ℕ) → IsPart unit text rest total → may_end text ≡ true
part_begins unit text rest total is =
    let number = is.is in
    let more = pointed number.fraction ++ (unit_word unit ++ rest) in
    let laid : text ≡ number.whole ++ more =
    sym is.written ∙ ap (λ (word : List ℕ). word ++ (unit_word unit ++ rest)) (sym number.written) ∙ append_assoc number.whole (pointed number.fraction) (unit_word unit ++ rest) in
    ap may_end laid ∙ digit_first number.whole more number.digits number.some

-- what comes behind a part begins with a digit, or is nothing
pub parts_begin : (smaller : List Unit) (text : List ℕ) (total : ℕ) → AreParts smaller text total → may_end text ≡ true
parts_begin [] text total is = ap may_end is.0
parts_begin (unit ∷ smaller) text total (inl is) = parts_begin smaller text total is
parts_begin (unit ∷ smaller) text total (inr (rest, first, others, part, more, sum)) = part_begins unit text rest first part

part_some : (unit : Unit) (text rest : List ℕ) (total : ℕ) → IsPart unit text rest total → text ≡ [] → ⊥
part_some unit text rest total is none =
    let number = is.is in
    let some = number.some in
    let long : length text ≡ length is.word + length (unit_word unit ++ rest) = ap length (sym is.written) ∙ length-append is.word (unit_word unit ++ rest) in
    let word : length is.word ≡ length number.whole + length (pointed number.fraction) = ap length (sym number.written) ∙ length-append number.whole (pointed number.fraction) in
    let empty : length text ≡ 0 = ap length none in
    omega arith

-- what begins with a part of a unit is no parts of smaller ones
pub none_smaller : (unit : Unit) (smaller : List Unit) (text rest : List ℕ) (first total : ℕ) → are_smaller unit smaller ≡ true → IsPart unit text rest first → may_end rest ≡ true
    → AreParts smaller text total → ⊥
none_smaller unit [] text rest first total small part ends is = part_some unit text rest first part is.0
none_smaller unit (other ∷ others) text rest first total small part ends (inl is) =
    none_smaller unit others text rest first total (both (nat_lt (unit_length other) (unit_length unit)) (are_smaller unit others) small).1 part ends is
none_smaller unit (other ∷ others) text rest first total small part ends (inr (rest', first', more, part', parts, sum)) =
    let test = (both (nat_lt (unit_length other) (unit_length unit)) (are_smaller unit others) small).0 in
    let less : unit_length other < unit_length unit = grind (arith, nat_tests) in
    let same = one_part unit other text rest rest' first first' part part' ends (parts_begin others rest' more parts) in
    let equal : unit_length unit ≡ unit_length other = ap unit_length same.0 in
    omega arith

-- the parts behind the first one
pub parts_behind : (unit : Unit) (smaller : List Unit) (text rest : List ℕ) (first all : ℕ) → are_smaller unit smaller ≡ true → IsPart unit text rest first → may_end rest ≡ true
    → AreParts (unit ∷ smaller) text all → (others : ℕ) × AreParts smaller rest others × (all ≡ first + others)
parts_behind unit smaller text rest first all small part ends (inl is) = absurd (none_smaller unit smaller text rest first all small part ends is)
parts_behind unit smaller text rest first all small part ends (inr (rest', first', more, part', parts, sum)) =
    let same = one_part unit unit text rest rest' first first' part part' ends (parts_begin smaller rest' more parts) in
    (more, subst (λ (r : List ℕ). AreParts smaller r more) (sym same.1) parts, sum ∙ ap (λ (n : ℕ). n + more) (sym same.2))

-- ---- one length

abbrev Fall : List Unit → Type 0
Fall [] = Prim.Unit {0}
Fall (unit ∷ smaller) = (are_smaller unit smaller ≡ true) × Fall smaller

same_parts : (all : List Unit) (text : List ℕ) (a b : ℕ) → Fall all → AreParts all text a → AreParts all text b → a ≡ b
same_parts [] text a b fall p q = p.1 ∙ sym q.1
same_parts (unit ∷ smaller) text a b fall (inl p) (inl q) = same_parts smaller text a b fall.1 p q
same_parts (unit ∷ smaller) text a b fall (inl p) (inr (rest, first, more, part, parts, sum)) =
    absurd (none_smaller unit smaller text rest first a fall.0 part (parts_begin smaller rest more parts) p)
same_parts (unit ∷ smaller) text a b fall (inr (rest, first, more, part, parts, sum)) q =
    let other = parts_behind unit smaller text rest first b fall.0 part (parts_begin smaller rest more parts) q in
    let same : more ≡ other.0 = same_parts smaller rest more other.0 fall.1 parts other.1 in
    sum ∙ ap (λ (n : ℕ). first + n) same ∙ sym other.2

pub same_length : (word : List ℕ) (a b : ℕ) → IsLength word a → IsLength word b → a ≡ b
same_length word a b p q = same_parts units word a b (refl, (refl, (refl, (refl, (refl, (refl, tt)))))) p.parts q.parts

pub same_share : (word : List ℕ) (a b : ℕ) → IsShare word a → IsShare word b → a ≡ b
same_share word a b (x, x_is, p) (y, y_is, q) =
    let words : x ≡ y = append_cancel_right x y (37 ∷ []) (x_is ∙ sym y_is) in
    same_numeral 3 4 y a b (subst (λ (w : List ℕ). IsNumeral 3 4 w a) words p) q
