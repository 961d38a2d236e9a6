-- Rows in their places, with one row more.
use Rattle.std.proofs.Common.{◌≡◌, ℕ, suc, ◌≤◌, Bool, true, false, cond, List, [], ◌∷◌, ◌++◌, length, map, refl, sym, ap, ◌∙◌, arith, append-nil, append_assoc}
use Rattle.std.specs.Prelude.{filter, All}
use Rattle.std.proofs.lemmas.List.Elements.{filter-append, All-nil, All-cons, All-head, All-tail}
use Rattle.trace.specs.declared.row.Row.{Row}
use Rattle.trace_rows.specs.Rows.{Placed, rows_in_place, placed_after}

-- a row in its place, with one row more after it
abbrev pub with_later : Row → Placed → Placed
with_later row p = record { earlier = p.earlier; row = p.row; later = p.later ++ row ∷ [] }

-- the last row in its place
abbrev pub last_placed : List Row → Row → Placed
last_placed earlier row = record { earlier = earlier; row = row; later = [] }

placed_after-push : (earlier rows : List Row) (row : Row)
    → placed_after earlier (rows ++ row ∷ []) ≡ map (with_later row) (placed_after earlier rows) ++ last_placed (earlier ++ rows) row ∷ []
placed_after-push earlier [] row = ap (λ e. last_placed e row ∷ []) (sym (append-nil earlier))
placed_after-push earlier (first ∷ rows) row =
    ap (λ ps. with_later row (record { earlier = earlier; row = first; later = rows }) ∷ ps)
    (placed_after-push (earlier ++ first ∷ []) rows row
    ∙ ap (λ e. map (with_later row) (placed_after (earlier ++ first ∷ []) rows) ++ last_placed e row ∷ []) (append_assoc earlier (first ∷ []) rows))

kept-one : (keep : Bool) (row : Row) (p : Placed) (now old : List Placed) → now ≡ map (with_later row) old
    → cond keep (with_later row p ∷ now) now ≡ map (with_later row) (cond keep (p ∷ old) old)
kept-one true row p now old is = ap (λ l. with_later row p ∷ l) is
kept-one false row p now old is = is

-- a test that doesn't ask for later rows keeps the same of them
kept-later : (test : Placed → Bool) (row : Row) → ((p : Placed) → test (with_later row p) ≡ test p) → (ps : List Placed)
    → filter test (map (with_later row) ps) ≡ map (with_later row) (filter test ps)
kept-later test row same [] = refl
kept-later test row same (p ∷ ps) =
    ap (λ b. cond b (with_later row p ∷ filter test (map (with_later row) ps)) (filter test (map (with_later row) ps))) (same p)
    ∙ kept-one (test p) row p (filter test (map (with_later row) ps)) (filter test ps) (kept-later test row same ps)

pub kept-push : (test : Placed → Bool) (rows : List Row) (row : Row) → ((p : Placed) → test (with_later row p) ≡ test p)
    → filter test (rows_in_place (rows ++ row ∷ [])) ≡ map (with_later row) (filter test (rows_in_place rows)) ++ cond (test (last_placed rows row)) (last_placed rows row ∷ []) []
kept-push test rows row same =
    ap (filter test) (placed_after-push [] rows row)
    ∙ filter-append test (map (with_later row) (rows_in_place rows)) (last_placed rows row ∷ [])
    ∙ ap (λ l. l ++ cond (test (last_placed rows row)) (last_placed rows row ∷ []) []) (kept-later test row same (rows_in_place rows))

-- what is made of the last row, where it is kept
pub made-one : {X : Type 0} (make : Placed → X) (keep : Bool) (p : Placed) → map make (cond keep (p ∷ []) []) ≡ cond keep (make p ∷ []) []
made-one make true p = refl
made-one make false p = refl

-- ---- how many there are

pub length-one : (keep : Bool) (p : Placed) → length (cond keep (p ∷ []) []) ≡ cond keep 1 0
length-one true p = refl
length-one false p = refl

pub length-placed : (earlier rows : List Row) → length (placed_after earlier rows) ≡ length rows
length-placed earlier [] = refl
length-placed earlier (row ∷ rows) = ap suc (length-placed (earlier ++ row ∷ []) rows)

pub few_later : (n : ℕ) (earlier rows : List Row) → length rows ≤ n → All (λ p. length p.later ≤ n) (placed_after earlier rows)
few_later n earlier [] few = All-nil (λ p. length p.later ≤ n)
few_later n earlier (row ∷ rows) few =
    All-cons (λ p. length p.later ≤ n) (record { earlier = earlier; row = row; later = rows }) (placed_after (earlier ++ row ∷ []) rows) (omega (arith, few)) (few_later n (earlier ++ row ∷ []) rows (omega (arith, few)))

-- what holds of each row holds of each in its place
pub All-placed_after : (P : Row → Type 0) (earlier rows : List Row) → All P rows → All (λ p. P p.row) (placed_after earlier rows)
All-placed_after P earlier [] all = All-nil (λ p. P p.row)
All-placed_after P earlier (row ∷ later) all =
    All-cons (λ p. P p.row) (record { earlier = earlier; row = row; later = later }) (placed_after (earlier ++ row ∷ []) later)
    (All-head P row later all) (All-placed_after P (earlier ++ row ∷ []) later (All-tail P row later all))
