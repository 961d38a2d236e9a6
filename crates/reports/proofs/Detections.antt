-- What one row more reports of a departure.
use Rattle.std.proofs.Common.{◌≡◌, ℕ, ◌+◌, true, false, cond, List, [], ◌∷◌, ◌++◌, Option, Some, refl, sym, ap, ◌∙◌, add-zero}
use Rattle.std.specs.Option.{option_or}
use Rattle.std.proofs.lemmas.List.Sums.{sum_by_push}
use Rattle.trace.specs.declared.row.What.TheVariants as what
use Rattle.trace.specs.declared.row.Row.{Row}
pub use Rattle.trace_rows.proofs.Moments.{first-or, first-push, last-append, last-push, or-none}
pub use Rattle.trace_rows.proofs.Tellings.{tells_of-other, and-true, tells_of-it, has_kind-same, has_kind-not}
use Rattle.reports.specs.declared.departure.Detection.{Detection}
use Rattle.trace_rows.specs.Rows.{tells_of}
use Rattle.reports.specs.Departures.{detection_of}
use Rattle.reports.specs.Failures.{detection_if, detection_with}

abbrev pub detection : Option ℕ → Option ℕ → Option ℕ → ℕ → Detection
detection suspect confirm last confirmers = record { suspect = suspect; confirm = confirm; last = last; confirmers = confirmers }

-- detections of the same parts are the same
same_parts : (a b : Detection) → a.suspect ≡ b.suspect → a.confirm ≡ b.confirm → a.last ≡ b.last → a.confirmers ≡ b.confirmers → a ≡ b
same_parts a b s c l n =
    ap (λ x. detection x a.confirm a.last a.confirmers) s ∙ ap (λ x. detection b.suspect x a.last a.confirmers) c
    ∙ ap (λ x. detection b.suspect b.confirm x a.confirmers) l ∙ ap (detection b.suspect b.confirm b.last) n

pub detection-push : (member : ℕ) (rows : List Row) (row : Row)
    → detection_of member (rows ++ row ∷ []) ≡ detection_with member row (detection_of member rows)
detection-push member rows row =
    same_parts _ _ (first-push (tells_of what.Suspect member) rows row) (first-push (tells_of what.Confirm member) rows row)
    (last-push (tells_of what.Confirm member) rows row) (sum_by_push (λ r. cond (tells_of what.Confirm member r) 1 0) rows row)

-- ---- what is known then

pub same_detection : (member : ℕ) (row : Row) (d : Detection) → tells_of what.Suspect member row ≡ false → tells_of what.Confirm member row ≡ false
    → d ≡ detection_with member row d
same_detection member row d s c =
    sym (ap (λ b. detection_if b (tells_of what.Confirm member row) row.at d) s ∙ ap (λ b. detection_if false b row.at d) c
    ∙ same_parts (detection_if false false row.at d) d (or-none _) (or-none _) refl (add-zero _))

pub suspect_detection : (member : ℕ) (row : Row) (d e : Detection) → tells_of what.Suspect member row ≡ true → tells_of what.Confirm member row ≡ false
    → e ≡ record d { suspect = option_or d.suspect (Some row.at) } → e ≡ detection_with member row d
suspect_detection member row d e s c is =
    is ∙ same_parts (record d { suspect = option_or d.suspect (Some row.at) }) (detection_if true false row.at d) refl (sym (or-none _)) refl (sym (add-zero _))
    ∙ ap (λ b. detection_if b false row.at d) (sym s) ∙ ap (λ b. detection_if (tells_of what.Suspect member row) b row.at d) (sym c)

pub confirm_detection : (member : ℕ) (row : Row) (d e : Detection) → tells_of what.Suspect member row ≡ false → tells_of what.Confirm member row ≡ true
    → e ≡ record d { confirm = option_or d.confirm (Some row.at); last = Some row.at; confirmers = d.confirmers + 1 } → e ≡ detection_with member row d
confirm_detection member row d e s c is =
    is ∙ same_parts (record d { confirm = option_or d.confirm (Some row.at); last = Some row.at; confirmers = d.confirmers + 1 }) (detection_if false true row.at d) (sym (or-none _)) refl refl refl
    ∙ ap (λ b. detection_if b true row.at d) (sym s) ∙ ap (λ b. detection_if (tells_of what.Suspect member row) b row.at d) (sym c)
