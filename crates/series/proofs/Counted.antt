-- The kinds of message that are counted.
use Rattle.std.proofs.Common.{◌≡◌, ℕ, true, false, ◌==◌, List, [], ◌∷◌, get_or, Option, Some, None, refl, sym, ap, ◌∙◌, arith, inl, inr}
use Rattle.std.proofs.lemmas.Bool.{cases_Bool}
use denote.Enum.Bare.{same_true, same_false}
use Rattle.trace.specs.contracts.row.What.{the_type}
use Rattle.trace.specs.declared.row.What.{What}
use Rattle.trace.specs.declared.row.What.TheVariants as what
use Rattle.trace.specs.declared.row.Row.{Row}
use Rattle.reports.specs.Rows.{has_kind}
use Rattle.series.specs.Series.{kind_place}

abbrev kinds : List What
kinds = what.Join ∷ what.Welcome ∷ what.Ping ∷ what.PingReq ∷ what.Ack ∷ what.Nack ∷ what.Bye
    ∷ what.Gossip ∷ what.Call ∷ what.Answer ∷ what.Push ∷ what.Pull ∷ what.Reconnect ∷ []

abbrev kind_at : ℕ → What
kind_at place = get_or kinds place what.Start

at_place : (n place : ℕ) (kind : What) → Some n ≡ Some place → kind_at n ≡ kind → kind_at place ≡ kind
at_place n place kind same is = ap (λ o. kind_of o) (sym same) ∙ is
  where
    kind_of : Option ℕ → What
    kind_of None = what.Start
    kind_of (Some m) = kind_at m

none_at : (place : ℕ) (kind : What) → None ≡ Some place → kind_at place ≡ kind
none_at place kind none = absurd (no none)
  where
    no : None ≡ Some place → ⊥
    no h = cc

-- the kind of a place
kind_at-place : (kind : What) (place : ℕ) → kind_place kind ≡ Some place → kind_at place ≡ kind
kind_at-place what.Join place is = at_place 0 place what.Join is refl
kind_at-place what.Welcome place is = at_place 1 place what.Welcome is refl
kind_at-place what.Ping place is = at_place 2 place what.Ping is refl
kind_at-place what.PingReq place is = at_place 3 place what.PingReq is refl
kind_at-place what.Ack place is = at_place 4 place what.Ack is refl
kind_at-place what.Nack place is = at_place 5 place what.Nack is refl
kind_at-place what.Bye place is = at_place 6 place what.Bye is refl
kind_at-place what.Gossip place is = at_place 7 place what.Gossip is refl
kind_at-place what.Call place is = at_place 8 place what.Call is refl
kind_at-place what.Answer place is = at_place 9 place what.Answer is refl
kind_at-place what.Push place is = at_place 10 place what.Push is refl
kind_at-place what.Pull place is = at_place 11 place what.Pull is refl
kind_at-place what.Start place is = none_at place what.Start is
kind_at-place what.Crash place is = none_at place what.Crash is
kind_at-place what.Joined place is = none_at place what.Joined is
kind_at-place what.Fail place is = none_at place what.Fail is
kind_at-place what.Health place is = none_at place what.Health is
kind_at-place what.Alive place is = none_at place what.Alive is
kind_at-place what.Suspect place is = none_at place what.Suspect is
kind_at-place what.Confirm place is = none_at place what.Confirm is
kind_at-place what.Accuse place is = none_at place what.Accuse is
kind_at-place what.Refute place is = none_at place what.Refute is
kind_at-place what.Dead place is = none_at place what.Dead is
kind_at-place what.Leave place is = none_at place what.Leave is
kind_at-place what.Restart place is = none_at place what.Restart is
kind_at-place what.Exit place is = none_at place what.Exit is
kind_at-place what.Left place is = none_at place what.Left is
kind_at-place what.Forget place is = none_at place what.Forget is
kind_at-place what.Reconnect place is = at_place 12 place what.Reconnect is refl

-- a row is of the kind just where its own kind has the same place
pub same_place : (kind : What) (row : Row) (place own : ℕ) → kind_place kind ≡ Some place → kind_place row.what ≡ Some own → (place == own) ≡ has_kind kind row
same_place kind row place own of_kind of_row =
    elim (cases_Bool (has_kind kind row)) as (λ _. (place == own) ≡ has_kind kind row) [
      | inl h ↦ equal place own (some_one place own (sym of_kind ∙ ap kind_place (sym (same_true the_type tt row.what kind h)) ∙ of_row)) ∙ sym h
      | inr h ↦ other place own (λ same. same_false the_type row.what kind h (sym (kind_at-place row.what own of_row) ∙ ap kind_at (sym same) ∙ kind_at-place kind place of_kind)) ∙ sym h
    ]
  where
    some_one : (a b : ℕ) → Some a ≡ Some b → a ≡ b
    some_one a b h = cc

    equal : (a b : ℕ) → a ≡ b → (a == b) ≡ true
    equal a b h = grind (arith)

    other : (a b : ℕ) → (a ≡ b → ⊥) → (a == b) ≡ false
    other a b h = grind (arith)

-- a row of a kind that isn't counted is of none that is
pub no_place : (kind : What) (row : Row) (place : ℕ) → kind_place kind ≡ Some place → kind_place row.what ≡ None → has_kind kind row ≡ false
no_place kind row place of_kind of_row =
    elim (cases_Bool (has_kind kind row)) as (λ _. has_kind kind row ≡ false) [
      | inl h ↦ absurd (none (sym of_row ∙ ap kind_place (same_true the_type tt row.what kind h) ∙ of_kind))
      | inr h ↦ h
    ]
  where
    none : None ≡ Some place → ⊥
    none h = cc
