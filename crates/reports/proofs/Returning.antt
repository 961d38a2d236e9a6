-- What one row more makes of who holds whom to have failed, and of those that are taken for alive again.
use Rattle.std.proofs.Common.{◌≡◌, ℕ, ◌+◌, ◌≤◌, Bool, true, false, cond, ◌&&◌, List, [], ◌∷◌, ◌++◌, length, map, Option, Some, None, refl, sym, ap, ◌∙◌, arith, append-nil, length-append}
use Rattle.std.specs.Prelude.{filter, if◌then◌else◌}
use Rattle.std.specs.Option.{option_map_or}
use Rattle.std.specs.List.{last_or}
use Rattle.std.specs.Int.{from_bool}
use Rattle.std.proofs.lemmas.List.{length-map}
use Rattle.std.proofs.lemmas.List.Elements.{filter-append}
use Rattle.std.proofs.lemmas.List.Sums.{length-filter, count_by-le-length}
use Rattle.trace.specs.declared.row.What.TheVariants as what
use Rattle.trace.specs.declared.row.Row.{Row}
use Rattle.trace_rows.specs.Rows.{rows_in_place, has_kind}
pub use Rattle.trace_rows.proofs.Places.{length-one, length-placed}
use Rattle.reports.specs.Revivals.{is_view_of, holds_failed, is_back, is_revival, revivals}
use Rattle.reports.specs.Held.{failed_with}
use Rattle.reports.proofs.Detections.{last-append}
use Rattle.reports.proofs.Pushes.{with_later, last_placed, kept-push}

-- ---- who holds whom to have failed

last-push : (test : Row → Bool) (rows : List Row) (row : Row) → last_or None (filter test (rows ++ row ∷ [])) ≡ cond (test row) (Some row) (last_or None (filter test rows))
last-push test rows row = ap (last_or None) (filter-append test rows (row ∷ [])) ∙ last-one (test row)
  where
    last-one : (keep : Bool) → last_or None (filter test rows ++ cond keep (row ∷ []) []) ≡ cond keep (Some row) (last_or None (filter test rows))
    last-one true = last-append None (filter test rows) row
    last-one false = ap (last_or None) (append-nil (filter test rows))

pub held-push : (rows : List Row) (row : Row) (member subject : ℕ) → holds_failed (rows ++ row ∷ []) member subject ≡ failed_with row (holds_failed rows) member subject
held-push rows row member subject = ap (λ o. option_map_or (has_kind what.Confirm) o false) (last-push (is_view_of member subject) rows row) ∙ one (is_view_of member subject row)
  where
    one : (told : Bool) → option_map_or (has_kind what.Confirm) (cond told (Some row) (last_or None (filter (is_view_of member subject) rows))) false ≡ (if told then has_kind what.Confirm row else holds_failed rows member subject)
    one true = refl
    one false = refl

-- ---- how often somebody is taken for alive again

pub revivals-push : (rows : List Row) (row : Row) → revivals (rows ++ row ∷ []) ≡ revivals rows + cond (is_back (holds_failed rows) row) 1 0
revivals-push rows row =
    let before = map (with_later row) (filter is_revival (rows_in_place rows)) in
    let one = cond (is_back (holds_failed rows) row) (last_placed rows row ∷ []) [] in
    sym (length-filter is_revival (rows_in_place (rows ++ row ∷ [])))
    ∙ ap length (kept-push is_revival rows row (λ p. refl))
    ∙ length-append before one
    ∙ ap (λ n. n + length one) (length-map (filter is_revival (rows_in_place rows)) (with_later row) ∙ length-filter is_revival (rows_in_place rows))
    ∙ ap (λ n. revivals rows + n) (length-one (is_back (holds_failed rows) row) (last_placed rows row))

pub few_revivals : (rows : List Row) → revivals rows ≤ length rows
few_revivals rows = omega (arith, count_by-le-length is_revival (rows_in_place rows), length-placed [] rows)

-- whether a row is a recovery, by other marks that are the same
same_back : (failed other : ℕ → ℕ → Bool) (row : Row) → ((member subject : ℕ) → failed member subject ≡ other member subject) → is_back failed row ≡ is_back other row
same_back failed other row same = ap (λ b. has_kind what.Alive row && b) (about row.about)
  where
    about : (o : Option ℕ) → option_map_or (failed row.member) o false ≡ option_map_or (other row.member) o false
    about None = refl
    about (Some subject) = same row.member subject

-- ---- one row more of what is kept

counted : (b : Bool) → ◌≡◌ {A = ℕ} (from_bool b) (cond b 1 0)
counted true = refl
counted false = refl

pub count-push : (old one : ℕ) (back : Bool) (failed : ℕ → ℕ → Bool) (rows : List Row) (row : Row) → old ≡ revivals rows → one ≡ from_bool back → back ≡ is_back failed row
    → ((member subject : ℕ) → failed member subject ≡ holds_failed rows member subject) → old + one ≡ revivals (rows ++ row ∷ [])
count-push old one back failed rows row so_far raised is same =
    ap (λ n. n + one) so_far ∙ ap (λ n. revivals rows + n) (raised ∙ counted back ∙ ap (λ b. cond b 1 0) (is ∙ same_back failed (holds_failed rows) row same)) ∙ sym (revivals-push rows row)

pub failed-push : (before after : ℕ → ℕ → Bool) (rows : List Row) (row : Row) → ((member subject : ℕ) → before member subject ≡ holds_failed rows member subject)
    → ((member subject : ℕ) → after member subject ≡ failed_with row before member subject) → (member subject : ℕ) → after member subject ≡ holds_failed (rows ++ row ∷ []) member subject
failed-push before after rows row were is member subject =
    is member subject ∙ ap (λ b. if is_view_of member subject row then has_kind what.Confirm row else b) (were member subject) ∙ sym (held-push rows row member subject)
