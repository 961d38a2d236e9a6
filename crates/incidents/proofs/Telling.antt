-- Rows of which incidents and returns ask nothing: of which kinds they aren't.
use Rattle.std.proofs.Common.{◌≡◌, Bool, true, false, ◌||◌, ◌∙◌, refl, sym, ap}
use Rattle.std.specs.Prelude.{not}
use Rattle.std.proofs.lemmas.Bool.{false≢true}
use denote.Enum.Bare.{same_true}
use Rattle.trace.specs.contracts.row.What.{the_type}
use Rattle.trace.specs.declared.row.What.{What}
use Rattle.trace.specs.declared.row.What.TheVariants as what
use Rattle.trace.specs.declared.row.Row.{Row}
use Rattle.trace_rows.specs.Rows.{has_kind}
use Rattle.incidents.specs.Lives.{is_turn}
use Rattle.incidents.specs.Views.{views, is_one_of}
use Rattle.incidents.specs.Telling.{reports_nothing}

-- a kind whose rows tell something
abbrev pub IsTold : What → Type 0
IsTold kind = (row : Row) → reports_nothing (record row { what = kind }) ≡ false

not_by : (kind : What) (row : Row) (is : Bool) → has_kind kind row ≡ is → IsTold kind → reports_nothing row ≡ true → has_kind kind row ≡ false
not_by kind row false other told nothing = other
not_by kind row true same told nothing =
    let told_too : reports_nothing row ≡ false = ap (λ w. reports_nothing (record row { what = w })) (same_true the_type tt row.what kind same) ∙ told row in
    absurd (false≢true (sym told_too ∙ nothing))

-- a row that tells nothing is of no such kind
pub not_told : (kind : What) (row : Row) → IsTold kind → reports_nothing row ≡ true → has_kind kind row ≡ false
not_told kind row told nothing = not_by kind row (has_kind kind row) refl told nothing

no_first : (a b c : Bool) → not (a || (b || c)) ≡ true → a ≡ false
no_first true b c none = sym none
no_first false b c none = refl

no_second : (a b c : Bool) → not (a || (b || c)) ≡ true → b ≡ false
no_second true true c none = sym none
no_second true false c none = refl
no_second false true c none = sym none
no_second false false c none = refl

-- nor does it begin or end a life
pub no_turn : (row : Row) → reports_nothing row ≡ true → is_turn row ≡ false
no_turn row nothing = no_first (is_turn row) (is_one_of views row) (has_kind what.Joined row) nothing

-- nor say anything of another member
pub no_view : (row : Row) → reports_nothing row ≡ true → is_one_of views row ≡ false
no_view row nothing = no_second (is_turn row) (is_one_of views row) (has_kind what.Joined row) nothing
