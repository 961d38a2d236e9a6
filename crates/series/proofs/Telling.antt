-- What one row more reports of a member.
use Rattle.std.proofs.Common.{◌≡◌, ℕ, ◌+◌, Bool, true, false, cond, List, [], ◌∷◌, ◌++◌, length, Option, Some, None, refl, sym, ap, ◌∙◌, arith, add-zero, append-nil}
use Rattle.std.specs.Prelude.{filter_map, count_by, if◌then◌else◌, slice_get}
use Rattle.std.specs.Option.{option_or, option_to_list}
use Rattle.std.specs.List.{last_or, cons_option}
use Rattle.std.proofs.lemmas.List.Elements.{filter_map-append}
use Rattle.std.proofs.lemmas.List.Sums.{sum_by_push}
use Rattle.trace.specs.declared.row.What.{What}
use Rattle.trace.specs.declared.row.Row.{Row}
use Rattle.reports.specs.Rows.{has_kind, is_about, tells_of}
use Rattle.reports.proofs.Detections.{tells_of-it}
use Rattle.series.specs.declared.lines.TraceLine.{TraceLine}
use Rattle.series.specs.Lines.{line_at, lines_from, lines_of}

-- ---- lines

lines-more : (n : ℕ) (test : Row → Bool) (rows : List Row) (row : Row) → lines_from n test (rows ++ row ∷ []) ≡ lines_from n test rows ++ cond (test row) (line_at (length rows + n) row ∷ []) []
lines-more n test [] row = here (test row) n (0 + n) (omega arith)
  where
    here : (t : Bool) (a b : ℕ) → a ≡ b → cond t (line_at a row ∷ []) [] ≡ cond t (line_at b row ∷ []) []
    here t a b same = ap (λ m. cond t (line_at m row ∷ []) []) same
lines-more n test (first ∷ rows) row =
    kept (test first) (lines_from (n + 1) test (rows ++ row ∷ [])) (lines_from (n + 1) test rows) (cond (test row) (line_at (length (first ∷ rows) + n) row ∷ []) [])
    (lines-more (n + 1) test rows row ∙ ap (λ m. lines_from (n + 1) test rows ++ cond (test row) (line_at m row ∷ []) []) next)
  where
    next : length rows + (n + 1) ≡ length (first ∷ rows) + n
    next = omega arith

    kept : (t : Bool) (now old more : List TraceLine) → now ≡ old ++ more → cond t (line_at n first ∷ now) now ≡ cond t (line_at n first ∷ old) old ++ more
    kept true now old more is = ap (λ l. line_at n first ∷ l) is
    kept false now old more is = is

lines-push : (test : Row → Bool) (rows : List Row) (row : Row) → lines_of test (rows ++ row ∷ []) ≡ lines_of test rows ++ cond (test row) (line_at (length rows + 2) row ∷ []) []
lines-push test rows row = lines-more 2 test rows row

first-of : (lines : List TraceLine) (t : Bool) (x : TraceLine) → slice_get (lines ++ cond t (x ∷ []) []) 0 ≡ option_or (slice_get lines 0) (if t then Some x else None)
first-of [] true x = refl
first-of [] false x = refl
first-of (y ∷ lines) t x = refl

last-append : (o : Option TraceLine) (lines : List TraceLine) (x : TraceLine) → last_or o (lines ++ x ∷ []) ≡ Some x
last-append o [] x = refl
last-append o (y ∷ ys) x = last-append (Some y) ys x

last-of : (lines : List TraceLine) (t : Bool) (x : TraceLine) → last_or None (lines ++ cond t (x ∷ []) []) ≡ (if t then Some x else last_or None lines)
last-of lines true x = last-append None lines x
last-of lines false x = ap (last_or None) (append-nil lines)

pub first_line-push : (kind : What) (subject : ℕ) (rows : List Row) (row : Row) (number : ℕ) (old new : Option TraceLine) → is_about subject row ≡ true → number ≡ length rows + 2
    → old ≡ slice_get (lines_of (tells_of kind subject) rows) 0
    → new ≡ option_or old (if has_kind kind row then Some (line_at number row) else None)
    → new ≡ slice_get (lines_of (tells_of kind subject) (rows ++ row ∷ [])) 0
first_line-push kind subject rows row number old new about numbered was is =
    is ∙ ap (λ o. option_or o (if has_kind kind row then Some (line_at number row) else None)) was
    ∙ ap (λ n. option_or (slice_get (lines_of (tells_of kind subject) rows) 0) (if has_kind kind row then Some (line_at n row) else None)) numbered
    ∙ ap (λ t. option_or (slice_get (lines_of (tells_of kind subject) rows) 0) (if t then Some (line_at (length rows + 2) row) else None)) (sym (tells_of-it kind subject row about))
    ∙ sym (ap (λ l. slice_get l 0) (lines-push (tells_of kind subject) rows row) ∙ first-of (lines_of (tells_of kind subject) rows) (tells_of kind subject row) (line_at (length rows + 2) row))

pub last_line-push : (kind : What) (subject : ℕ) (rows : List Row) (row : Row) (number : ℕ) (old new : Option TraceLine) → is_about subject row ≡ true → number ≡ length rows + 2
    → old ≡ last_or None (lines_of (tells_of kind subject) rows)
    → new ≡ (if has_kind kind row then Some (line_at number row) else old)
    → new ≡ last_or None (lines_of (tells_of kind subject) (rows ++ row ∷ []))
last_line-push kind subject rows row number old new about numbered was is =
    is ∙ ap (λ o. if has_kind kind row then Some (line_at number row) else o) was
    ∙ ap (λ n. if has_kind kind row then Some (line_at n row) else last_or None (lines_of (tells_of kind subject) rows)) numbered
    ∙ ap (λ t. if t then Some (line_at (length rows + 2) row) else last_or None (lines_of (tells_of kind subject) rows)) (sym (tells_of-it kind subject row about))
    ∙ sym (ap (last_or None) (lines-push (tells_of kind subject) rows row) ∙ last-of (lines_of (tells_of kind subject) rows) (tells_of kind subject row) (line_at (length rows + 2) row))

-- ---- counts

pub count-push : {X : Type 0} (test : X → Bool) (xs : List X) (x : X) → count_by test (xs ++ x ∷ []) ≡ count_by test xs + cond (test x) 1 0
count-push test xs x = sum_by_push (λ y. cond (test y) 1 0) xs x

-- ---- what is known of changes

pub told-push : {X Y : Type 0} (told : X → Option Y) (xs : List X) (x : X) → filter_map told (xs ++ x ∷ []) ≡ filter_map told xs ++ option_to_list (told x)
told-push told xs x = filter_map-append told xs (x ∷ []) ∙ ap (λ l. filter_map told xs ++ l) (one (told x))
  where
    one : {Y : Type 0} (o : Option Y) → cons_option o [] ≡ option_to_list o
    one None = refl
    one (Some y) = refl

-- ---- what a row doesn't report

pub lines_other : (test : Row → Bool) (rows : List Row) (row : Row) → test row ≡ false → lines_of test rows ≡ lines_of test (rows ++ row ∷ [])
lines_other test rows row none = sym (lines-push test rows row ∙ ap (λ t. lines_of test rows ++ cond t (line_at (length rows + 2) row ∷ []) []) none ∙ append-nil (lines_of test rows))

pub count_other : {X : Type 0} (test : X → Bool) (xs : List X) (x : X) → test x ≡ false → count_by test xs ≡ count_by test (xs ++ x ∷ [])
count_other test xs x none = sym (count-push test xs x ∙ ap (λ t. count_by test xs + cond t 1 0) none ∙ add-zero (count_by test xs))
