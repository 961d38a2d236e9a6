-- What one row more makes of who is up, and of what a member has said last.
use Rattle.std.proofs.Common.{◌≡◌, ℕ, ◌+◌, ◌≤◌, Bool, true, false, cond, ◌||◌, List, [], ◌∷◌, ◌++◌, length, map, Option, Some, None, refl, sym, ap, ◌∙◌, arith, append-nil, length-append}
use Rattle.std.specs.Prelude.{filter, count_by, if◌then◌else◌}
use Rattle.std.specs.Option.{option_map_or}
use Rattle.std.specs.List.{last_or}
use Rattle.std.proofs.lemmas.List.{length-map}
use Rattle.std.proofs.lemmas.List.Elements.{filter-append}
use Rattle.std.proofs.lemmas.List.Folds.{list_any-append}
use Rattle.std.proofs.lemmas.List.Sums.{length-filter, count_by-le-length}
use Rattle.trace.specs.declared.row.What.{What}
use Rattle.trace.specs.declared.row.Row.{Row}
use Rattle.trace_rows.specs.Rows.{Placed, rows_in_place, has_kind}
use Rattle.trace_rows.proofs.Moments.{last-append}
use Rattle.trace_rows.proofs.Places.{with_later, last_placed, kept-push}
use Rattle.trace_rows.proofs.Places.{length-one, length-placed}
use Rattle.incidents.specs.Lives.{last_row, begins, is_turn_of, is_up, restarts, has_restarted}
use Rattle.incidents.specs.Views.{views, is_said, says}

-- ---- the last row that passes a test

last-one : (test : Row → Bool) (rows : List Row) (row : Row) (keep : Bool) → last_or None (filter test rows ++ cond keep (row ∷ []) []) ≡ cond keep (Some row) (last_row test rows)
last-one test rows row true = last-append None (filter test rows) row
last-one test rows row false = ap (last_or None) (append-nil (filter test rows))

last-push : (test : Row → Bool) (rows : List Row) (row : Row) → last_row test (rows ++ row ∷ []) ≡ cond (test row) (Some row) (last_row test rows)
last-push test rows row = ap (last_or None) (filter-append test rows (row ∷ [])) ∙ last-one test rows row (test row)

read-one : (read : Row → Bool) (start : Bool) (last : Option Row) (row : Row) (keep : Bool) → option_map_or read (cond keep (Some row) last) start ≡ (if keep then read row else option_map_or read last start)
read-one read start last row true = refl
read-one read start last row false = refl

-- what is read in it
pub read-push : (read : Row → Bool) (start : Bool) (test : Row → Bool) (rows : List Row) (row : Row)
    → option_map_or read (last_row test (rows ++ row ∷ [])) start ≡ (if test row then read row else option_map_or read (last_row test rows) start)
read-push read start test rows row = ap (λ o. option_map_or read o start) (last-push test rows row) ∙ read-one read start (last_row test rows) row (test row)

-- ---- who is up, and who has started again

pub up-push : (rows : List Row) (row : Row) (m : ℕ) → is_up (rows ++ row ∷ []) m ≡ (if is_turn_of m row then begins row else is_up rows m)
up-push rows row m = read-push begins false (is_turn_of m) rows row

or-none : (b c : Bool) → (b || (c || false)) ≡ (b || c)
or-none true c = refl
or-none false true = refl
or-none false false = refl

pub restarted-push : (rows : List Row) (row : Row) (m : ℕ) → has_restarted (rows ++ row ∷ []) m ≡ (has_restarted rows m || restarts m row)
restarted-push rows row m = list_any-append (restarts m) rows (row ∷ []) ∙ or-none (has_restarted rows m) (restarts m row)

-- ---- what a member says

pub says-push : (kind : What) (rows : List Row) (row : Row) (i j : ℕ) → says kind (rows ++ row ∷ []) i j ≡ (if is_said views i j row then has_kind kind row else says kind rows i j)
says-push kind rows row i j = read-push (has_kind kind) false (is_said views i j) rows row

-- ---- counts of rows in their places

-- one row more, where the test asks nothing of later rows
pub counted-push : (test : Placed → Bool) (rows : List Row) (row : Row) → ((p : Placed) → test (with_later row p) ≡ test p)
    → count_by test (rows_in_place (rows ++ row ∷ [])) ≡ count_by test (rows_in_place rows) + cond (test (last_placed rows row)) 1 0
counted-push test rows row same =
    let before = map (with_later row) (filter test (rows_in_place rows)) in
    let one = cond (test (last_placed rows row)) (last_placed rows row ∷ []) [] in
    sym (length-filter test (rows_in_place (rows ++ row ∷ [])))
    ∙ ap length (kept-push test rows row same)
    ∙ length-append before one
    ∙ ap (λ n. n + length one) (length-map (filter test (rows_in_place rows)) (with_later row) ∙ length-filter test (rows_in_place rows))
    ∙ ap (λ n. count_by test (rows_in_place rows) + n) (length-one (test (last_placed rows row)) (last_placed rows row))

pub few_placed : (test : Placed → Bool) (rows : List Row) → count_by test (rows_in_place rows) ≤ length rows
few_placed test rows = omega (arith, count_by-le-length test (rows_in_place rows), length-placed [] rows)
