-- What one row more makes of when members learned of a crash.
use Rattle.std.proofs.Common.{◌≡◌, ℕ, Bool, true, false, cond, ◌&&◌, ◌||◌, ◌==◌, List, [], ◌∷◌, ◌++◌, Option, Some, None, refl, sym, ap, ◌∙◌, append-nil}
use Rattle.std.specs.Prelude.{filter, find, if◌then◌else◌}
use Rattle.std.specs.Option.{option_map_or, option_or}
use Rattle.std.specs.List.{last_or, list_any}
use Rattle.std.proofs.lemmas.List.Elements.{filter-append}
use Rattle.std.proofs.lemmas.List.Folds.{find-append}
use Rattle.trace.specs.declared.row.What.{What}
use Rattle.trace.specs.declared.row.Row.{Row}
use Rattle.reports.specs.Rows.{has_kind, is_about}
use Rattle.reports.specs.Revivals.{is_view, is_view_of}
use Rattle.reports.specs.Departures.{moment_of}
use Rattle.reports.proofs.Detections.{tells_of-it, first-or, or-none}
use Rattle.series.specs.Stories.{says, first_said, is_crash_of, before_crash, from_crash, told_at, held_so, heard_in, with_row}

-- ---- rows before a crash, and from it on

abbrev has_crashed : ℕ → List Row → Bool
has_crashed subject rows = list_any (is_crash_of subject) rows

pub crashed_more : (subject : ℕ) (rows : List Row) (row : Row) → has_crashed subject (rows ++ row ∷ []) ≡ (has_crashed subject rows || is_crash_of subject row)
crashed_more subject [] row = or-false (is_crash_of subject row)
  where
    or-false : (b : Bool) → (b || false) ≡ b
    or-false true = refl
    or-false false = refl
crashed_more subject (first ∷ rows) row = next (is_crash_of subject first) _ _ _ (crashed_more subject rows row)
  where
    next : (t a b c : Bool) → a ≡ (b || c) → (t || a) ≡ ((t || b) || c)
    next true a b c is = refl
    next false a b c is = is

-- a crash that came stays where it is
before_same : (subject : ℕ) (rows : List Row) (row : Row) → has_crashed subject rows ≡ true → before_crash subject (rows ++ row ∷ []) ≡ before_crash subject rows
before_same subject [] row came = absurd (no came)
  where
    no : false ≡ true → ⊥
    no h = cc
before_same subject (first ∷ rows) row came = next (is_crash_of subject first) came (before_same subject rows row)
  where
    next : (t : Bool) → (t || has_crashed subject rows) ≡ true → (has_crashed subject rows ≡ true → before_crash subject (rows ++ row ∷ []) ≡ before_crash subject rows) → (if t then [] else first ∷ before_crash subject (rows ++ row ∷ [])) ≡ (if t then [] else first ∷ before_crash subject rows)
    next true h rest = refl
    next false h rest = ap (λ l. first ∷ l) (rest h)

from_more : (subject : ℕ) (rows : List Row) (row : Row) → has_crashed subject rows ≡ true → from_crash subject (rows ++ row ∷ []) ≡ from_crash subject rows ++ row ∷ []
from_more subject [] row came = absurd (no came)
  where
    no : false ≡ true → ⊥
    no h = cc
from_more subject (first ∷ rows) row came = next (is_crash_of subject first) came (from_more subject rows row)
  where
    next : (t : Bool) → (t || has_crashed subject rows) ≡ true → (has_crashed subject rows ≡ true → from_crash subject (rows ++ row ∷ []) ≡ from_crash subject rows ++ row ∷ [])
        → (if t then first ∷ (rows ++ row ∷ []) else from_crash subject (rows ++ row ∷ [])) ≡ (if t then first ∷ rows else from_crash subject rows) ++ row ∷ []
    next true h rest = refl
    next false h rest = rest h

-- before any, a row more stands before it, or is the crash's
before_more : (subject : ℕ) (rows : List Row) (row : Row) → has_crashed subject rows ≡ false → before_crash subject (rows ++ row ∷ []) ≡ rows ++ (if is_crash_of subject row then [] else row ∷ [])
before_more subject [] row none = refl
before_more subject (first ∷ rows) row none = next (is_crash_of subject first) none (before_more subject rows row)
  where
    next : (t : Bool) → (t || has_crashed subject rows) ≡ false → (has_crashed subject rows ≡ false → before_crash subject (rows ++ row ∷ []) ≡ rows ++ (if is_crash_of subject row then [] else row ∷ []))
        → (if t then [] else first ∷ before_crash subject (rows ++ row ∷ [])) ≡ first ∷ (rows ++ (if is_crash_of subject row then [] else row ∷ []))
    next true h rest = absurd (no h)
      where
        no : true ≡ false → ⊥
        no is = cc
    next false h rest = ap (λ l. first ∷ l) (rest h)

from_first : (subject : ℕ) (rows : List Row) (row : Row) → has_crashed subject rows ≡ false → from_crash subject (rows ++ row ∷ []) ≡ (if is_crash_of subject row then row ∷ [] else [])
from_first subject [] row none = refl
from_first subject (first ∷ rows) row none = next (is_crash_of subject first) none (from_first subject rows row)
  where
    next : (t : Bool) → (t || has_crashed subject rows) ≡ false → (has_crashed subject rows ≡ false → from_crash subject (rows ++ row ∷ []) ≡ (if is_crash_of subject row then row ∷ [] else []))
        → (if t then first ∷ (rows ++ row ∷ []) else from_crash subject (rows ++ row ∷ [])) ≡ (if is_crash_of subject row then row ∷ [] else [])
    next true h rest = absurd (no h)
      where
        no : true ≡ false → ⊥
        no is = cc
    next false h rest = rest h

before_all : (subject : ℕ) (rows : List Row) → has_crashed subject rows ≡ false → before_crash subject rows ≡ rows
before_all subject [] none = refl
before_all subject (first ∷ rows) none = next (is_crash_of subject first) none (before_all subject rows)
  where
    next : (t : Bool) → (t || has_crashed subject rows) ≡ false → (has_crashed subject rows ≡ false → before_crash subject rows ≡ rows) → (if t then [] else first ∷ before_crash subject rows) ≡ first ∷ rows
    next true h rest = absurd (no h)
      where
        no : true ≡ false → ⊥
        no is = cc
    next false h rest = ap (λ l. first ∷ l) (rest h)

from_none : (subject : ℕ) (rows : List Row) → has_crashed subject rows ≡ false → from_crash subject rows ≡ []
from_none subject [] none = refl
from_none subject (first ∷ rows) none = next (is_crash_of subject first) none (from_none subject rows)
  where
    next : (t : Bool) → (t || has_crashed subject rows) ≡ false → (has_crashed subject rows ≡ false → from_crash subject rows ≡ []) → (if t then first ∷ rows else from_crash subject rows) ≡ []
    next true h rest = absurd (no h)
      where
        no : true ≡ false → ⊥
        no is = cc
    next false h rest = rest h

-- ---- what is held, and what is first said, with one row more

last-append : (o : Option Row) (rows : List Row) (row : Row) → last_or o (rows ++ row ∷ []) ≡ Some row
last-append o [] row = refl
last-append o (y ∷ ys) row = last-append (Some y) ys row

held-push : (kind : What) (subject member : ℕ) (rows : List Row) (row : Row)
    → held_so kind subject member (rows ++ row ∷ []) ≡ (if is_view_of member subject row then told_at kind row else held_so kind subject member rows)
held-push kind subject member rows row =
    ap (λ l. option_map_or (told_at kind) (last_or None l) None) (filter-append (is_view_of member subject) rows (row ∷ [])) ∙ one (is_view_of member subject row)
  where
    one : (t : Bool) → option_map_or (told_at kind) (last_or None (filter (is_view_of member subject) rows ++ cond t (row ∷ []) [])) None
        ≡ (if t then told_at kind row else held_so kind subject member rows)
    one true = ap (λ o. option_map_or (told_at kind) o None) (last-append None (filter (is_view_of member subject) rows) row)
    one false = ap (λ l. option_map_or (told_at kind) (last_or None l) None) (append-nil (filter (is_view_of member subject) rows))

said-push : (kind : What) (subject member : ℕ) (rows : List Row) (row : Row)
    → first_said kind subject member (rows ++ row ∷ []) ≡ option_or (first_said kind subject member rows) (if says kind subject member row then Some row.at else None)
said-push kind subject member rows row =
    ap moment_of (find-append (says kind subject member) rows (row ∷ [])) ∙ first-or (find (says kind subject member) rows) (find (says kind subject member) (row ∷ []))
    ∙ ap (option_or (first_said kind subject member rows)) (one (says kind subject member row))
  where
    one : (t : Bool) → moment_of (cond t (Some row) None) ≡ (if t then Some row.at else None)
    one true = refl
    one false = refl

or_or : (a b c : Option ℕ) → option_or a (option_or b c) ≡ option_or (option_or a b) c
or_or None b c = refl
or_or (Some x) b c = refl

-- ---- when a member learned of the crash, with one row more

-- the same by what is held before the crash, and what is first said from it on
abbrev heard_of : What → ℕ → ℕ → List Row → List Row → Option ℕ
heard_of kind subject member before from = option_or (held_so kind subject member before) (first_said kind subject member from)

after : (kind : What) (subject member : ℕ) (rows : List Row) (row : Row) → has_crashed subject rows ≡ true
    → heard_in kind subject member (rows ++ row ∷ []) ≡ option_or (heard_in kind subject member rows) (if says kind subject member row then Some row.at else None)
after kind subject member rows row came =
    ap (λ l. heard_of kind subject member l (from_crash subject (rows ++ row ∷ []))) (before_same subject rows row came)
    ∙ ap (heard_of kind subject member (before_crash subject rows)) (from_more subject rows row came)
    ∙ ap (option_or (held_so kind subject member (before_crash subject rows))) (said-push kind subject member (from_crash subject rows) row)
    ∙ or_or (held_so kind subject member (before_crash subject rows)) _ _

before : (kind : What) (subject member : ℕ) (rows : List Row) (row : Row) → has_crashed subject rows ≡ false
    → heard_in kind subject member (rows ++ row ∷ []) ≡ heard_of kind subject member (rows ++ (if is_crash_of subject row then [] else row ∷ [])) (if is_crash_of subject row then row ∷ [] else [])
before kind subject member rows row none =
    ap (λ l. heard_of kind subject member l (from_crash subject (rows ++ row ∷ []))) (before_more subject rows row none)
    ∙ ap (heard_of kind subject member (rows ++ (if is_crash_of subject row then [] else row ∷ []))) (from_first subject rows row none)

so_far : (kind : What) (subject member : ℕ) (rows : List Row) → has_crashed subject rows ≡ false → heard_in kind subject member rows ≡ held_so kind subject member rows
so_far kind subject member rows none =
    ap (λ l. heard_of kind subject member l (from_crash subject rows)) (before_all subject rows none)
    ∙ ap (heard_of kind subject member rows) (from_none subject rows none) ∙ or-none (held_so kind subject member rows)

-- a row that neither reports what the member holds of the subject, nor says this of it
pub heard_other : (kind : What) (subject member : ℕ) (rows : List Row) (row : Row) → is_view_of member subject row ≡ false → says kind subject member row ≡ false
    → heard_in kind subject member rows ≡ heard_in kind subject member (rows ++ row ∷ [])
heard_other kind subject member rows row no_view none = sym (by_crash (has_crashed subject rows) refl)
  where
    held : held_so kind subject member (rows ++ row ∷ []) ≡ held_so kind subject member rows
    held = held-push kind subject member rows row ∙ ap (λ t. if t then told_at kind row else held_so kind subject member rows) no_view

    by_row : (t : Bool) → heard_of kind subject member (rows ++ (if t then [] else row ∷ [])) (if t then row ∷ [] else []) ≡ held_so kind subject member rows
    by_row true =
        ap (λ l. heard_of kind subject member l (row ∷ [])) (append-nil rows)
        ∙ ap (λ t. option_or (held_so kind subject member rows) (moment_of (cond t (Some row) None))) none ∙ or-none (held_so kind subject member rows)
    by_row false = or-none (held_so kind subject member (rows ++ row ∷ [])) ∙ held

    by_crash : (t : Bool) → has_crashed subject rows ≡ t → heard_in kind subject member (rows ++ row ∷ []) ≡ heard_in kind subject member rows
    by_crash true came =
        after kind subject member rows row came ∙ ap (λ t. option_or (heard_in kind subject member rows) (if t then Some row.at else None)) none
        ∙ or-none (heard_in kind subject member rows)
    by_crash false yet = before kind subject member rows row yet ∙ by_row (is_crash_of subject row) ∙ sym (so_far kind subject member rows yet)

-- a row that is about the subject, and isn't that of its crash
pub heard_more : (kind : What) (subject member : ℕ) (rows : List Row) (row : Row) → is_about subject row ≡ true → is_crash_of subject row ≡ false
    → heard_in kind subject member (rows ++ row ∷ [])
    ≡ (if row.member == member then with_row (has_crashed subject rows) kind row (heard_in kind subject member rows) else heard_in kind subject member rows)
heard_more kind subject member rows row about no_crash = by_crash (has_crashed subject rows) refl
  where
    old : Option ℕ
    old = heard_in kind subject member rows

    said : (k t : Bool) → option_or old (if k && t then Some row.at else None) ≡ (if t then option_or old (if k then Some row.at else None) else old)
    said true true = refl
    said true false = or-none old
    said false true = refl
    said false false = or-none old

    viewed : (v t a : Bool) (told was : Option ℕ) → a ≡ true → (if v && (t && a) then told else was) ≡ (if t then (if v then told else was) else was)
    viewed true true true told was h = refl
    viewed true false true told was h = refl
    viewed false true true told was h = refl
    viewed false false true told was h = refl
    viewed v t false told was h = absurd (no h)
      where
        no : false ≡ true → ⊥
        no is = cc

    by_crash : (t : Bool) → has_crashed subject rows ≡ t
        → heard_in kind subject member (rows ++ row ∷ []) ≡ (if row.member == member then with_row (has_crashed subject rows) kind row old else old)
    by_crash true came =
        after kind subject member rows row came
        ∙ ap (λ t. option_or old (if t && row.member == member then Some row.at else None)) (tells_of-it kind subject row about)
        ∙ said (has_kind kind row) (row.member == member)
        ∙ ap (λ c. if row.member == member then with_row c kind row old else old) (sym came)
    by_crash false yet =
        before kind subject member rows row yet
        ∙ ap (λ t. heard_of kind subject member (rows ++ (if t then [] else row ∷ [])) (if t then row ∷ [] else [])) no_crash
        ∙ or-none (held_so kind subject member (rows ++ row ∷ []))
        ∙ held-push kind subject member rows row
        ∙ viewed (is_view row) (row.member == member) (is_about subject row) (told_at kind row) (held_so kind subject member rows) about
        ∙ ap (λ was. if row.member == member then with_row false kind row was else was) (sym (so_far kind subject member rows yet))
        ∙ ap (λ c. if row.member == member then with_row c kind row old else old) (sym yet)
