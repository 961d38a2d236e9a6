-- What one row more makes of when members learned of a crash, where its subject may start again behind it.
use Rattle.std.proofs.Common.{◌≡◌, ℕ, Bool, true, false, ◌&&◌, ◌||◌, ◌==◌, List, [], ◌∷◌, ◌++◌, refl, sym, ap, ◌∙◌}
use Rattle.std.specs.Prelude.{if◌then◌else◌}
use Rattle.std.specs.List.{list_any}
use Rattle.std.proofs.Math.Bool.{and-false}
use Rattle.trace.specs.declared.row.What.{What}
use Rattle.trace.specs.declared.row.Row.{Row}
use Rattle.reports.specs.Rows.{is_about}
use Rattle.reports.specs.Revivals.{is_view_of}
use Rattle.incidents.specs.Lives.{restarts}
use Rattle.series.specs.Stories.{says, is_crash_of, heard_in, rows_until, returns_among, heard, with_row}
use Rattle.series.proofs.Hearing.{heard_other, heard_more}

-- a row ends the news behind these rows, or one of these did
abbrev pub ends : Bool → ℕ → List Row → Row → Bool
ends crashed subject rows row = returns_among crashed subject rows || ((crashed || list_any (is_crash_of subject) rows) && restarts subject row)

or_assoc : (a b c : Bool) → ((a || b) || c) ≡ (a || (b || c))
or_assoc true b c = refl
or_assoc false b c = refl

or_false : (b : Bool) → (b || false) ≡ b
or_false true = refl
or_false false = refl

-- the same where the first of the rows may be that of the crash
ends_behind : (crashed : Bool) (subject : ℕ) (first : Row) (rows : List Row) (row : Row)
    → ends (crashed || is_crash_of subject first) subject rows row
    ≡ (returns_among (crashed || is_crash_of subject first) subject rows || ((crashed || (is_crash_of subject first || list_any (is_crash_of subject) rows)) && restarts subject row))
ends_behind crashed subject first rows row =
    ap (λ c. returns_among (crashed || is_crash_of subject first) subject rows || (c && restarts subject row)) (or_assoc crashed (is_crash_of subject first) (list_any (is_crash_of subject) rows))

-- the rows that count
rows_more : (crashed : Bool) (subject : ℕ) (rows : List Row) (row : Row)
    → rows_until crashed subject (rows ++ row ∷ []) ≡ (if ends crashed subject rows row then rows_until crashed subject rows else rows_until crashed subject rows ++ row ∷ [])
rows_more crashed subject [] row = one crashed (restarts subject row)
  where
    one : (c r : Bool) → (if c && r then [] else row ∷ []) ≡ (if (c || false) && r then [] else row ∷ [])
    one true r = refl
    one false r = refl
rows_more crashed subject (first ∷ rows) row =
    next (crashed && restarts subject first)
    (rows_more (crashed || is_crash_of subject first) subject rows row
    ∙ ap (λ e. if e then rows_until (crashed || is_crash_of subject first) subject rows else rows_until (crashed || is_crash_of subject first) subject rows ++ row ∷ [])
    (ends_behind crashed subject first rows row))
  where
    out : (e : Bool) (a b : List Row) → first ∷ (if e then a else b) ≡ (if e then first ∷ a else first ∷ b)
    out true a b = refl
    out false a b = refl

    next : (t : Bool)
        → rows_until (crashed || is_crash_of subject first) subject (rows ++ row ∷ [])
        ≡ (if returns_among (crashed || is_crash_of subject first) subject rows || ((crashed || (is_crash_of subject first || list_any (is_crash_of subject) rows)) && restarts subject row)
        then rows_until (crashed || is_crash_of subject first) subject rows
        else rows_until (crashed || is_crash_of subject first) subject rows ++ row ∷ [])
        → (if t then [] else first ∷ rows_until (crashed || is_crash_of subject first) subject (rows ++ row ∷ []))
        ≡ (if ((t || returns_among (crashed || is_crash_of subject first) subject rows) || ((crashed || (is_crash_of subject first || list_any (is_crash_of subject) rows)) && restarts subject row))
        then (if t then [] else first ∷ rows_until (crashed || is_crash_of subject first) subject rows)
        else (if t then [] else first ∷ rows_until (crashed || is_crash_of subject first) subject rows) ++ row ∷ [])
    next true rest = refl
    next false rest = ap (λ l. first ∷ l) rest ∙ out _ _ _

-- whether one of them ends it
pub returns_more : (crashed : Bool) (subject : ℕ) (rows : List Row) (row : Row) → returns_among crashed subject (rows ++ row ∷ []) ≡ ends crashed subject rows row
returns_more crashed subject [] row = one crashed (restarts subject row)
  where
    one : (c r : Bool) → ((c && r) || false) ≡ ((c || false) && r)
    one true r = or_false r
    one false r = refl
returns_more crashed subject (first ∷ rows) row =
    next (crashed && restarts subject first) _ _ _ (returns_more (crashed || is_crash_of subject first) subject rows row ∙ ends_behind crashed subject first rows row)
  where
    next : (t a b c : Bool) → a ≡ (b || c) → (t || a) ≡ ((t || b) || c)
    next true a b c is = refl
    next false a b c is = is

-- all of them count where none does
all_count : (crashed : Bool) (subject : ℕ) (rows : List Row) → returns_among crashed subject rows ≡ false → rows_until crashed subject rows ≡ rows
all_count crashed subject [] none = refl
all_count crashed subject (first ∷ rows) none = next (crashed && restarts subject first) none (all_count (crashed || is_crash_of subject first) subject rows)
  where
    next : (t : Bool) → (t || returns_among (crashed || is_crash_of subject first) subject rows) ≡ false
        → (returns_among (crashed || is_crash_of subject first) subject rows ≡ false → rows_until (crashed || is_crash_of subject first) subject rows ≡ rows)
        → (if t then [] else first ∷ rows_until (crashed || is_crash_of subject first) subject rows) ≡ first ∷ rows
    next true h rest = absurd (no h)
      where
        no : true ≡ false → ⊥
        no is = cc
    next false h rest = ap (λ l. first ∷ l) (rest h)

-- a row that doesn't start the subject again ends nothing
pub returns_same : (subject : ℕ) (rows : List Row) (row : Row) → restarts subject row ≡ false → returns_among false subject (rows ++ row ∷ []) ≡ returns_among false subject rows
returns_same subject rows row no_return =
    returns_more false subject rows row
    ∙ ap (λ r. returns_among false subject rows || (list_any (is_crash_of subject) rows && r)) no_return
    ∙ ap (λ r. returns_among false subject rows || r) (and-false (list_any (is_crash_of subject) rows))
    ∙ or_false (returns_among false subject rows)

-- a row that neither reports what the member holds of the subject, nor says this of it
pub heard_unmoved : (kind : What) (subject member : ℕ) (rows : List Row) (row : Row) → is_view_of member subject row ≡ false → says kind subject member row ≡ false
    → heard kind subject member rows ≡ heard kind subject member (rows ++ row ∷ [])
heard_unmoved kind subject member rows row no_view none =
    sym (ap (heard_in kind subject member) (rows_more false subject rows row) ∙ by_end (ends false subject rows row))
  where
    by_end : (e : Bool) → heard_in kind subject member (if e then rows_until false subject rows else rows_until false subject rows ++ row ∷ [])
        ≡ heard_in kind subject member (rows_until false subject rows)
    by_end true = refl
    by_end false = sym (heard_other kind subject member (rows_until false subject rows) row no_view none)

-- a row behind the one with which the subject started again
pub heard_no_more : (kind : What) (subject member : ℕ) (rows : List Row) (row : Row) → returns_among false subject rows ≡ true
    → heard kind subject member rows ≡ heard kind subject member (rows ++ row ∷ [])
heard_no_more kind subject member rows row over =
    sym (ap (heard_in kind subject member) (rows_more false subject rows row)
    ∙ ap (λ b. heard_in kind subject member (if b || (list_any (is_crash_of subject) rows && restarts subject row) then rows_until false subject rows else rows_until false subject rows ++ row ∷ [])) over)

-- a row before it that is about the subject, and neither that of its crash nor that of its return
pub heard_with : (kind : What) (subject member : ℕ) (rows : List Row) (row : Row) → is_about subject row ≡ true → is_crash_of subject row ≡ false → restarts subject row ≡ false
    → returns_among false subject rows ≡ false
    → heard kind subject member (rows ++ row ∷ [])
    ≡ (if row.member == member then with_row (list_any (is_crash_of subject) rows) kind row (heard kind subject member rows) else heard kind subject member rows)
heard_with kind subject member rows row about no_crash no_return yet =
    ap (heard_in kind subject member) (rows_more false subject rows row)
    ∙ ap (λ e. heard_in kind subject member (if e then rows_until false subject rows else rows_until false subject rows ++ row ∷ []))
    (sym (returns_more false subject rows row) ∙ returns_same subject rows row no_return ∙ yet)
    ∙ heard_more kind subject member (rows_until false subject rows) row about no_crash
    ∙ ap (λ (l : List Row). if row.member == member then with_row (list_any (is_crash_of subject) l) kind row (heard kind subject member rows) else heard kind subject member rows)
    (all_count false subject rows yet)
