-- Kinds of rows: what begins or ends a life says nothing of another member.
use Rattle.std.proofs.Common.{◌≡◌, Bool, true, false, ◌||◌, refl, sym}
use Rattle.std.specs.List.{list_any}
use Rattle.std.proofs.lemmas.Bool.{false≢true}
use denote.Enum.Bare.{sameb}
use Rattle.trace.specs.contracts.row.What.{the_type}
use Rattle.trace.specs.declared.row.What.{What}
use Rattle.trace.specs.declared.row.What.TheVariants as what
use Rattle.trace.specs.declared.row.Row.{Row}
use Rattle.trace_rows.specs.Rows.{has_kind}
use Rattle.incidents.specs.Lives.{is_turn}
use Rattle.incidents.specs.Views.{views, claims, is_one_of}

-- whether a kind is another one
abbrev same : What → What → Bool
same kind other = sameb the_type kind other

abbrev turns : What → Bool
turns kind = (same kind what.Start || same kind what.Restart) || (same kind what.Crash || same kind what.Leave)

abbrev is_of : What → Bool
is_of kind = list_any (λ other. same kind other) views

view_of_turn : (kind : What) → turns kind ≡ true → is_of kind ≡ false
view_of_turn what.Start turn = refl
view_of_turn what.Crash turn = refl
view_of_turn what.Joined turn = refl
view_of_turn what.Join turn = refl
view_of_turn what.Welcome turn = refl
view_of_turn what.Ping turn = refl
view_of_turn what.PingReq turn = refl
view_of_turn what.Ack turn = refl
view_of_turn what.Nack turn = refl
view_of_turn what.Fail turn = refl
view_of_turn what.Health turn = refl
view_of_turn what.Alive turn = absurd (false≢true turn)
view_of_turn what.Suspect turn = absurd (false≢true turn)
view_of_turn what.Confirm turn = absurd (false≢true turn)
view_of_turn what.Accuse turn = refl
view_of_turn what.Refute turn = refl
view_of_turn what.Dead turn = refl
view_of_turn what.Leave turn = refl
view_of_turn what.Bye turn = refl
view_of_turn what.Gossip turn = refl
view_of_turn what.Call turn = refl
view_of_turn what.Answer turn = refl
view_of_turn what.Push turn = refl
view_of_turn what.Pull turn = refl
view_of_turn what.Restart turn = refl
view_of_turn what.Exit turn = refl
view_of_turn what.Left turn = absurd (false≢true turn)
view_of_turn what.Forget turn = absurd (false≢true turn)
view_of_turn what.Reconnect turn = refl

pub turn_is_no_view : (row : Row) → is_turn row ≡ true → is_one_of views row ≡ false
turn_is_no_view row turn = view_of_turn row.what turn

or-first : (a b : Bool) → (a || b) ≡ false → a ≡ false
or-first false b none = refl
or-first true b none = none

or-rest : (a b : Bool) → (a || b) ≡ false → b ≡ false
or-rest false b none = none
or-rest true b none = absurd (false≢true (sym none))

-- what says nothing of another doesn't suspect it, nor hold it dead
pub no_suspicion : (row : Row) → is_one_of views row ≡ false → has_kind what.Suspect row ≡ false
no_suspicion row none = or-first _ _ (or-rest (has_kind what.Alive row) _ none)

pub no_death : (row : Row) → is_one_of views row ≡ false → has_kind what.Confirm row ≡ false
no_death row none = or-first _ _ (or-rest (has_kind what.Suspect row) _ (or-rest (has_kind what.Alive row) _ none))

-- nor does it say whether the other is in the cluster
both_none : (a c l f : Bool) → a ≡ false → c ≡ false → l ≡ false → f ≡ false → (a || (c || (l || (f || false)))) ≡ false
both_none a c l f first second third fourth = cc

pub no_claim : (row : Row) → is_one_of views row ≡ false → is_one_of claims row ≡ false
no_claim row none =
    let rest = or-rest (has_kind what.Alive row) _ none in
    let third = or-rest (has_kind what.Confirm row) _ (or-rest (has_kind what.Suspect row) _ rest) in
    both_none (has_kind what.Alive row) (has_kind what.Confirm row) (has_kind what.Left row) (has_kind what.Forget row) (or-first _ _ none) (no_death row none)
    (or-first _ _ third) (or-first _ _ (or-rest (has_kind what.Left row) _ third))
