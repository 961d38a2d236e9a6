-- What holds of a relay whenever no step is under way.
use Rattle.std.specs.Prelude.{◌≡◌, ℕ, Bool, true, List, ◌++◌, map, All, Option, IfSome}
use mathlib.Core.Option.{some}
use lib.ListN.{get_elem?}
use Rattle.relay.specs.declared.rule.Log.{Log}
use Rattle.relay.specs.Lots.{NoneAfterLast}

abbrev pub log : {L G : Type 0} → Bool → Bool → Option G → List L → List L → Log L G
log sends takes given sent taken = record { sends = sends; takes = takes; given = given; sent = sent; taken = taken }

-- a pass that may send has the whole record of what was sent, one that may take has that of what was taken, and both know the value
pub record Fits {L G : Type 0} (sender taker : ℕ) (given : Option G) (sent taken : List L) (pass : ℕ) (view : Log L G) : Type 0 where
  pub sends : view.sends ≡ true → (pass ≡ sender) × (view.given ≡ given) × (view.sent ≡ sent)
  pub takes : view.takes ≡ true → (pass ≡ taker) × (view.given ≡ given) × (view.taken ≡ taken)

module _ {T L G : Type 0} (stands_for : T → L) (is_last : L → Bool) where
  -- What was sent is what was taken and then what lies in the relay, oldest first. Each item that lies there belongs to the value,
  -- and none was sent after the last. One pass sends, and one takes.
  pub record Relayed (belongs : G → T → Type 0) (items : List T) (views : List (Log L G)) : Type 0 where
    pub sender : ℕ
    pub taker : ℕ
    pub given : Option G
    pub sent : List L
    pub taken : List L
    pub in_order : sent ≡ taken ++ map stands_for items
    pub one_end : NoneAfterLast is_last sent
    pub belong : IfSome given (λ g. All (belongs g) items)
    pub each : (pass : ℕ) (view : Log L G) → get_elem? views pass ≡ some view → Fits sender taker given sent taken pass view

  -- what lies there was sent and not taken, and the last has none after it
  abbrev pub Remains : Log L G → List T → Type 0
  Remains v items = (v.sent ≡ v.taken ++ map stands_for items) × NoneAfterLast is_last v.sent
