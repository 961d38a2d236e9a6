-- Of which kind a row is, and about whom.
use Rattle.std.proofs.Common.{◌≡◌, ℕ, Bool, true, false, ◌&&◌, refl, ap, ◌∙◌}
use Rattle.std.proofs.Math.Bool.{and-false}
use denote.Enum.Bare.{sameb, false_same}
use Rattle.trace.specs.contracts.row.What.{the_type}
use Rattle.trace.specs.declared.row.What.{What}
use Rattle.trace.specs.declared.row.Row.{Row}
use Rattle.trace_rows.specs.Rows.{has_kind, is_about, tells_of}

-- a row about others reports nothing of it
pub tells_of-other : (kind : What) (member : ℕ) (row : Row) → is_about member row ≡ false → tells_of kind member row ≡ false
tells_of-other kind member row other = ap (λ b. has_kind kind row && b) other ∙ and-false (has_kind kind row)

pub and-true : (b : Bool) → (b && true) ≡ b
and-true true = refl
and-true false = refl

-- of a row about it, the kind alone counts
pub tells_of-it : (kind : What) (member : ℕ) (row : Row) → is_about member row ≡ true → tells_of kind member row ≡ has_kind kind row
tells_of-it kind member row it = ap (λ b. has_kind kind row && b) it ∙ and-true (has_kind kind row)

pub has_kind-same : (kind other : What) (row : Row) → row.what ≡ kind → has_kind other row ≡ sameb the_type kind other
has_kind-same kind other row is = ap (λ w. sameb the_type w other) is

pub has_kind-not : (kind : What) (row : Row) → (row.what ≡ kind → ⊥) → has_kind kind row ≡ false
has_kind-not kind row not_it = false_same the_type tt row.what kind not_it
