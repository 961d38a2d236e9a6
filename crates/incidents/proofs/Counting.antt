-- What one row more makes of the counts.
use Rattle.std.proofs.Common.{◌≡◌, ℕ, zero, suc, ◌+◌, ◌≤◌, Bool, true, false, cond, ◌&&◌, ◌||◌, List, [], ◌∷◌, ◌++◌, length, map, refl, sym, ap, ◌∙◌, arith, append-nil, append_assoc, add-zero, zero-add}
use Rattle.std.specs.Prelude.{count_by, slice_index_or}
use Rattle.std.specs.List.{list_any, range_with_len}
use Rattle.std.proofs.lemmas.List.Sums.{sum_by-cons}
use Rattle.std.proofs.lemmas.List.Folds.{list_any-append}
use Rattle.trace.specs.declared.row.Row.{Row}
use Rattle.trace_rows.specs.Rows.{Placed, rows_in_place, placed_after, is_about}
use Rattle.trace_rows.proofs.Places.{with_later, last_placed}
use Rattle.incidents.specs.declared.cluster.Trouble.{Trouble}
use Rattle.incidents.specs.Lives.{members, weight}
use Rattle.incidents.specs.Incidents.{is_alarm, is_death, is_well, alarms, deaths, deaths_well, has_died}
use Rattle.incidents.specs.Kept.{placed}
use Rattle.incidents.proofs.Pushes.{counted-push, few_placed}

-- ---- counts

counted : (test : Placed → Bool) (old new : ℕ) (is : Bool) (rows : List Row) (row : Row) → ((p : Placed) → test (with_later row p) ≡ test p)
    → old ≡ count_by test (rows_in_place rows) → is ≡ test (placed rows row) → new ≡ old + weight is
    → new ≡ count_by test (rows_in_place (rows ++ row ∷ []))
counted test old new is rows row same so_far tells more =
    more ∙ ap (λ n. n + cond is 1 0) so_far ∙ ap (λ b. count_by test (rows_in_place rows) + cond b 1 0) tells ∙ sym (counted-push test rows row same)

pub alarms-push : (count old new : ℕ) (is : Bool) (rows : List Row) (row : Row) → old ≡ alarms count rows → is ≡ is_alarm count (placed rows row)
    → new ≡ old + weight is → new ≡ alarms count (rows ++ row ∷ [])
alarms-push count old new is rows row = counted (is_alarm count) old new is rows row (λ p. refl)

pub deaths-push : (count old new : ℕ) (is : Bool) (rows : List Row) (row : Row) → old ≡ deaths count rows → is ≡ is_death count (placed rows row)
    → new ≡ old + weight is → new ≡ deaths count (rows ++ row ∷ [])
deaths-push count old new is rows row = counted (is_death count) old new is rows row (λ p. refl)

pub well-push : (count : ℕ) (troubles : List Trouble) (reach old new : ℕ) (is : Bool) (rows : List Row) (row : Row) → old ≡ deaths_well count troubles reach rows
    → is ≡ (is_death count (placed rows row) && is_well troubles reach row)
    → new ≡ old + weight is → new ≡ deaths_well count troubles reach (rows ++ row ∷ [])
well-push count troubles reach old new is rows row = counted (λ p. is_death count p && is_well troubles reach p.row) old new is rows row (λ p. refl)

pub few_alarms : (count : ℕ) (rows : List Row) → alarms count rows ≤ length rows
few_alarms count rows = few_placed (is_alarm count) rows

pub few_deaths : (count : ℕ) (rows : List Row) → deaths count rows ≤ length rows
few_deaths count rows = few_placed (is_death count) rows

pub few_well : (count : ℕ) (troubles : List Trouble) (reach : ℕ) (rows : List Row) → deaths_well count troubles reach rows ≤ length rows
few_well count troubles reach rows = few_placed (λ p. is_death count p && is_well troubles reach p.row) rows

-- ---- who had a false death

placed-push : (earlier rows : List Row) (row : Row)
    → placed_after earlier (rows ++ row ∷ []) ≡ map (with_later row) (placed_after earlier rows) ++ last_placed (earlier ++ rows) row ∷ []
placed-push earlier [] row = ap (λ e. last_placed e row ∷ []) (sym (append-nil earlier))
placed-push earlier (first ∷ rows) row =
    ap (λ ps. with_later row (record { earlier = earlier; row = first; later = rows }) ∷ ps)
    (placed-push (earlier ++ first ∷ []) rows row
    ∙ ap (λ e. map (with_later row) (placed_after (earlier ++ first ∷ []) rows) ++ last_placed e row ∷ []) (append_assoc earlier (first ∷ []) rows))

any_later : (test : Placed → Bool) (row : Row) → ((p : Placed) → test (with_later row p) ≡ test p) → (ps : List Placed) → list_any test (map (with_later row) ps) ≡ list_any test ps
any_later test row same [] = refl
any_later test row same (p ∷ ps) = ap (λ b. b || list_any test (map (with_later row) ps)) (same p) ∙ ap (λ b. test p || b) (any_later test row same ps)

or-none : (b c : Bool) → (b || (c || false)) ≡ (b || c)
or-none true c = refl
or-none false true = refl
or-none false false = refl

any-push : (test : Placed → Bool) (rows : List Row) (row : Row) → ((p : Placed) → test (with_later row p) ≡ test p)
    → list_any test (rows_in_place (rows ++ row ∷ [])) ≡ (list_any test (rows_in_place rows) || test (placed rows row))
any-push test rows row same =
    ap (list_any test) (placed-push [] rows row)
    ∙ list_any-append test (map (with_later row) (rows_in_place rows)) (last_placed rows row ∷ [])
    ∙ ap (λ b. b || (test (placed rows row) || false)) (any_later test row same (rows_in_place rows))
    ∙ or-none (list_any test (rows_in_place rows)) (test (placed rows row))

pub died-push : (count m : ℕ) (old new death : Bool) (rows : List Row) (row : Row) → old ≡ has_died count rows m → death ≡ is_death count (placed rows row)
    → new ≡ (old || (death && is_about m row)) → new ≡ has_died count (rows ++ row ∷ []) m
died-push count m old new death rows row so_far dies is =
    is ∙ ap (λ b. b || (death && is_about m row)) so_far ∙ ap (λ b. has_died count rows m || (b && is_about m row)) dies
    ∙ sym (any-push (λ p. is_death count p && is_about m p.row) rows row (λ p. refl))

-- flags that are set for those who pass a test are as many as they
marked_from : (flags : List Bool) (P : ℕ → Bool) (start n : ℕ) → length flags ≡ n → ((k : ℕ) → slice_index_or flags k false ≡ P (start + k))
    → count_by (λ flag. flag) flags ≡ count_by P (range_with_len start n)
marked_from [] P start zero long is = refl
marked_from [] P start (suc n) long is = absurd (omega (arith, long))
marked_from (flag ∷ flags) P start zero long is = absurd (omega (arith, long))
marked_from (flag ∷ flags) P start (suc n) long is =
    let first : flag ≡ P start = is 0 ∙ ap P (add-zero start) in
    let rest = marked_from flags P (start + 1) n (omega (arith, long)) (λ k. is (suc k) ∙ ap P (omega arith)) in
    sum_by-cons (λ (f : Bool). cond f 1 0) flag flags
    ∙ ap (λ b. cond b 1 0 + count_by (λ f. f) flags) first ∙ ap (λ n. cond (P start) 1 0 + n) rest
    ∙ sym (sum_by-cons (λ a. cond (P a) 1 0) start (range_with_len (start + 1) n))

pub marked_members : (flags : List Bool) (P : ℕ → Bool) (count : ℕ) → length flags ≡ count → ((k : ℕ) → slice_index_or flags k false ≡ P k)
    → count_by (λ flag. flag) flags ≡ count_by P (members count)
marked_members flags P count long is = marked_from flags P 0 count long (λ k. is k ∙ ap P (sym (zero-add k)))
