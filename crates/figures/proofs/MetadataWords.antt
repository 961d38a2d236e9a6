-- A note and its figures, read from words.
use Rattle.std.proofs.Common.{◌≡◌, ◌<◌, ◌^◌, ℕ, List, map, ◌==◌, sym, ap, subst, ◌∙◌}
use Rattle.std.specs.Prelude.{Option, All, Result, Ok, Err, IfOk}
use Rattle.std.specs.Option.{ForSome}
use Rattle.std.specs.List.{slice_split, join_with_byte}
use Rattle.std.proofs.lemmas.List.Splits.{join_with_byte-slice_split}
use Rattle.reports.specs.Text.{figure}
use Rattle.figures.specs.Notes.{Note, note_figures, IsNoteWord, AreFigureWords}

-- what is said of a success, and what follows from that
pub if_ok_then : {T E : Type 0} (r : Result T E) (G Q : T → Type 0) → IfOk r G → ((x : T) → G x → Q x) → IfOk r Q
if_ok_then (Ok x) G Q gives turn = turn x gives
if_ok_then (Err e) G Q gives turn = tt

-- the figures of a word, put together again
pub note_read : (word : List ℕ) (fs : List (Option ℕ)) (n : Note) → AreFigureWords (slice_split (λ byte. byte == 32) word) fs → note_figures n ≡ fs → IsNoteWord word n
note_read word fs n are same = record {
  written = ap (λ l. join_with_byte 32 (map figure l)) same ∙ ap (join_with_byte 32) are.written ∙ join_with_byte-slice_split 32 word;
  small = subst (All (λ f. ForSome f (λ m. m < 2 ^ 63))) (sym same) are.small;
}
