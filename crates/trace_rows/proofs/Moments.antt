-- The moments of the first and of the last of rows, with one row more.
use Rattle.std.proofs.Common.{◌≡◌, ℕ, Bool, true, false, cond, List, [], ◌∷◌, ◌++◌, Option, Some, None, refl, ap, ◌∙◌, append-nil}
use Rattle.std.specs.Prelude.{filter, find}
use Rattle.std.specs.Option.{option_or}
use Rattle.std.specs.List.{last_or}
use Rattle.std.proofs.lemmas.List.Elements.{filter-append}
use Rattle.std.proofs.lemmas.List.Folds.{find-append}
use Rattle.trace.specs.declared.row.Row.{Row}
use Rattle.trace_rows.specs.Moments.{moment_of, moment_if}

pub first-or : (a b : Option Row) → moment_of (option_or a b) ≡ option_or (moment_of a) (moment_of b)
first-or None b = refl
first-or (Some x) b = refl

pub first-one : (test : Bool) (row : Row) → moment_of (cond test (Some row) None) ≡ moment_if test row.at
first-one true row = refl
first-one false row = refl

pub first-push : (test : Row → Bool) (rows : List Row) (row : Row) → moment_of (find test (rows ++ row ∷ [])) ≡ option_or (moment_of (find test rows)) (moment_if (test row) row.at)
first-push test rows row =
    ap moment_of (find-append test rows (row ∷ [])) ∙ first-or (find test rows) (find test (row ∷ [])) ∙ ap (option_or (moment_of (find test rows))) (first-one (test row) row)

pub last-append : (o : Option Row) (rows : List Row) (row : Row) → last_or o (rows ++ row ∷ []) ≡ Some row
last-append o [] row = refl
last-append o (y ∷ ys) row = last-append (Some y) ys row

pub last-one : (test : Bool) (rows : List Row) (row : Row) → moment_of (last_or None (rows ++ cond test (row ∷ []) [])) ≡ cond test (Some row.at) (moment_of (last_or None rows))
last-one true rows row = ap moment_of (last-append None rows row)
last-one false rows row = ap (λ l. moment_of (last_or None l)) (append-nil rows)

pub last-push : (test : Row → Bool) (rows : List Row) (row : Row) → moment_of (last_or None (filter test (rows ++ row ∷ []))) ≡ cond (test row) (Some row.at) (moment_of (last_or None (filter test rows)))
last-push test rows row = ap (λ l. moment_of (last_or None l)) (filter-append test rows (row ∷ [])) ∙ last-one (test row) (filter test rows) row

pub or-none : (o : Option ℕ) → option_or o None ≡ o
or-none None = refl
or-none (Some x) = refl
