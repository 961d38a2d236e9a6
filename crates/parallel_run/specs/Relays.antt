-- The seats of the relays of a run, as it begins and as it ends.
use Rattle.std.specs.Prelude.{◌≡◌, ℕ, true, List, [], Some, length}
use Rattle.std.specs.List.{AllByRecursion, slice_get}
use Rattle.scenario.specs.Setup.{Setup}
use Rattle.scenario.specs.Division.{Deal}
use Rattle.relay.specs.Seats.{given_of, sent_by, taken_by, IsSender, IsTaker}
use Rattle.lookahead_windows.specs.Basis.{Basis}
use Rattle.parallel_run.specs.declared.row_relay.RelaySeats.{RelaySeats}
use Rattle.parallel_run.specs.declared.closed_relay.ClosedRelay.{ClosedRelay}
use Rattle.parallel_run.specs.declared.closed_relay.RunAccount.{RunAccount}
use Rattle.parallel_run.specs.Relaying.{RowRelay, basis_by, basis_in, has_last_batch}

-- the relay was made for a run that goes by that
abbrev pub IsMadeFor : Basis → RowRelay → Type 0
IsMadeFor basis relay = basis_in (given_of relay) ≡ basis

-- these are the seats of the relay of that number, which goes by what the run goes by, and nothing was sent over it
pub record AreNewSeats (relays : List RowRelay) (basis : Basis) (seats : RelaySeats) : Type 0 where
  pub here : slice_get relays seats.number ≡ Some seats.relay.value
  pub given : basis_in (given_of seats.relay.value) ≡ basis
  pub sends : IsSender seats.relay.value seats.sender
  pub takes : IsTaker seats.relay.value seats.taker
  pub none_sent : sent_by seats.sender ≡ []

-- what was sent over the relay is what was received, and the last batch of its part was
pub record IsRelayed (relay : RowRelay) (one : ClosedRelay) : Type 0 where
  pub sends : IsSender relay one.sent.value
  pub takes : IsTaker relay one.taken.value
  pub all : taken_by one.taken.value ≡ sent_by one.sent.value
  pub last : has_last_batch (taken_by one.taken.value) ≡ true

-- so it is of the relay of that number
abbrev pub IsClosed : List RowRelay → ℕ → ClosedRelay → Type 0
IsClosed relays number one = (relay : RowRelay) × (slice_get relays number ≡ Some relay) × IsRelayed relay one

-- so it is of each of these relays
pub record AreRelayed (relays : List RowRelay) (closed : List ClosedRelay) : Type 0 where
  pub count : length closed ≡ length relays
  pub each : (number : ℕ) (one : ClosedRelay) → slice_get closed number ≡ Some one → IsClosed relays number one

-- the relay was made for a run of that scenario by these parts
abbrev pub IsOfRun : Setup → Deal → RowRelay → Type 0
IsOfRun s deal relay = (ways : List ℕ) × IsMadeFor (basis_by s deal ways) relay

-- The relays of a run of that scenario by these parts, as they were closed: each part had one, made for the run. What was sent over it is
-- what was received, and the last batch of the part was.
pub record AreClosed (s : Setup) (deal : Deal) (account : RunAccount) : Type 0 where
  pub count : length account.relays.value.items ≡ deal.parts
  pub made : AllByRecursion (IsOfRun s deal) account.relays.value.items
  pub relayed : AreRelayed account.relays.value.items account.closed.items
