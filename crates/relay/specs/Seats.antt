-- What the seats of a relay know.
use Rattle.std.specs.Prelude.{◌≡◌, ℕ, true, List, Some}
use Rattle.crossbeam_channel.specs.Claims.{view, IsSeatAt}
use Rattle.crossbeam_channel.specs.Ends.{sends_on, ruled_capacity}
use Rattle.relay.specs.declared.relay.Relay.{Relay}
use Rattle.relay.specs.declared.relay.SendSeat.{SendSeat}
use Rattle.relay.specs.declared.relay.TakeSeat.{TakeSeat}

module _ {T L G : Type 0} where
  -- what was sent, oldest first
  abbrev pub sent_by : SendSeat T L G → List L
  sent_by seat = (view seat.pass).sent

  -- what was received, oldest first
  abbrev pub taken_by : TakeSeat T L G → List L
  taken_by seat = (view seat.pass).taken

module _ {T L G S : Type 0} where
  -- the value that the relay was made for
  abbrev pub given_of : Relay T L G S → G
  given_of relay = relay.given.value

  -- how many items the relay has room for
  abbrev pub room_of : Relay T L G S → ℕ
  room_of relay = ruled_capacity (sends_on relay.sender)

  -- the seat is the relay's, and sends
  pub record IsSender (relay : Relay T L G S) (seat : SendSeat T L G) : Type 0 where
    pub here : IsSeatAt (sends_on relay.sender) seat.pass
    pub may : (view seat.pass).sends ≡ true
    pub knows : (view seat.pass).given ≡ Some (given_of relay)

  -- the seat is the relay's, and receives
  pub record IsTaker (relay : Relay T L G S) (seat : TakeSeat T L G) : Type 0 where
    pub here : IsSeatAt (sends_on relay.sender) seat.pass
    pub may : (view seat.pass).takes ≡ true
    pub knows : (view seat.pass).given ≡ Some (given_of relay)
