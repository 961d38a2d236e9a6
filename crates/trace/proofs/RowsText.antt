-- The text of rows that are split in two.
use Rattle.std.proofs.Common.{◌≡◌, ◌-◌, ℕ, List, ◌++◌, length, take, drop, arith, sym, ap, ◌∙◌, append_assoc, take-append-drop, subst}
use Rattle.std.proofs.lemmas.Grind.{flat_map-append}
use Rattle.std.proofs.lemmas.List.{length-drop, take_all}
use Rattle.scenario.specs.Setup.{Setup}
use Rattle.trace.specs.declared.row.Row.{Row}
use Rattle.std.proofs.lemmas.List.Elements.{All-drop}
use Rattle.std.specs.Prelude.{Option, All}
use Rattle.std.specs.Io.KnownBytes.{Appends}
use Rattle.trace.specs.Sinks.{AppendsBeginning}
use Rattle.trace.specs.Text.{header, line_of, rows_text, trace_text, NamesMembers}
use Rattle.trace.proofs.Beginnings.{Appends-then, beginning-first, beginning-then, beginning-of}

-- the text of rows one after the other is the one text after the other
pub rows_text-append : (s : Setup) (first second : List Row) → rows_text s (first ++ second) ≡ rows_text s first ++ rows_text s second
rows_text-append s first second = flat_map-append (line_of s) first second

-- a text before that of rows, and the rows split in two
pub rows_text-split : (s : Setup) (rows first second : List Row) (n : ℕ) (before text whole : List ℕ) → first ≡ take n rows → second ≡ drop n rows
    → before ++ rows_text s rows ≡ whole → text ≡ rows_text s first → (before ++ text) ++ rows_text s second ≡ whole
rows_text-split s rows first second n before text whole taken dropped is_whole is_text =
    append_assoc before text (rows_text s second) ∙ ap (λ t. before ++ (t ++ rows_text s second)) is_text ∙ ap (λ t. before ++ t) (sym (rows_text-append s first second))
    ∙ ap (λ r. before ++ rows_text s (r ++ second)) taken ∙ ap (λ r. before ++ rows_text s (take n rows ++ r)) dropped
    ∙ ap (λ r. before ++ rows_text s r) (take-append-drop n rows) ∙ is_whole

-- a beginning of the text of the first rows is one of the text of all
pub beginning-rows : (a b : Option (List ℕ)) (s : Setup) (first second : List Row) → AppendsBeginning a b (rows_text s first) → AppendsBeginning a b (rows_text s (first ++ second))
beginning-rows a b s first second p =
    beginning-of a b _ _ (sym (rows_text-append s first second)) (beginning-first a b (rows_text s first) (rows_text s second) p)

-- the whole text of the first rows, and then a beginning of that of the second
pub beginning-rows_then : (a b c : Option (List ℕ)) (s : Setup) (first second : List Row) → Appends a b (rows_text s first) → AppendsBeginning b c (rows_text s second)
    → AppendsBeginning a c (rows_text s (first ++ second))
beginning-rows_then a b c s first second p q =
    beginning-of a c _ _ (sym (rows_text-append s first second)) (beginning-then a b c (rows_text s first) (rows_text s second) p q)

-- the text of the first rows, and then that of the second
pub Appends-rows_then : (a b c : Option (List ℕ)) (s : Setup) (first second : List Row) → Appends a b (rows_text s first) → Appends b c (rows_text s second)
    → Appends a c (rows_text s (first ++ second))
Appends-rows_then a b c s first second p q =
    subst (Appends a c) (sym (rows_text-append s first second)) (Appends-then a b c (rows_text s first) (rows_text s second) p q)

-- the whole trace grows by the text of the rows that are added
pub trace_text-append : (s : Setup) (first second : List Row) → trace_text s (first ++ second) ≡ trace_text s first ++ rows_text s second
trace_text-append s first second = ap (λ t. header ++ t) (rows_text-append s first second) ∙ sym (append_assoc header (rows_text s first) (rows_text s second))

-- the members that the rows left name are members where those of all are
pub named-later : (s : Setup) (rows later : List Row) (n : ℕ) → later ≡ drop n rows → All (NamesMembers s) rows → All (NamesMembers s) later
named-later s rows later n dropped named = subst (All (NamesMembers s)) (sym dropped) (All-drop (NamesMembers s) n rows named)

-- what is put of a room, from a place on
pub from_place : (room : List ℕ) (start : ℕ) → take (length room - start) (drop start room) ≡ drop start room
from_place room start = take_all (length room - start) (drop start room) (omega (arith, length-drop start room))
