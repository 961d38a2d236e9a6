-- What may go over the rings and relays of a run. All that is said of it is a function of what the run goes by.
use Rattle.std.specs.Prelude.{◌≡◌, ◌≢◌, ◌+◌, true, List, map, Option, Some, None}
use Rattle.base.specs.declared.fault.Fault.{Fault}
use Rattle.base.specs.declared.fault.Fault.TheVariants as fault
use Rattle.member.specs.StateOf.{pair_of}
use Rattle.member_laws.specs.Runs.{CounterOverflows}
use Rattle.lookahead_windows.specs.Messages.{IsMessage}
use Rattle.lookahead_windows.specs.Lots.{IsLot, HasLasted}
use Rattle.parallel_run.specs.declared.window_message.WindowMessage.{WindowMessage}
use Rattle.parallel_run.specs.declared.window_message.PeerMessage.{PeerMessage}
use Rattle.parallel_run.specs.declared.row_batch.RowBatch.{RowBatch}
use Rattle.parallel_run.specs.declared.row_batch.Delivery.{Delivery}
use Rattle.lookahead_windows.specs.Basis.{Basis, division_of, plan_of}

-- a fault by which a worker may end: it is a counter overflow only where the run has one, and it is no failed write
abbrev pub MayEndBy : Basis → Fault → Type 0
MayEndBy basis f = (f ≡ fault.CounterOverflow → CounterOverflows basis.setup) × (f ≢ fault.Write)

-- the word is what the run has there
abbrev pub IsWord : Basis → WindowMessage → Type 0
IsWord basis w = IsMessage (plan_of basis) w.from w.to w.round (map pair_of w.events.items) w.least

-- one worker may send this to another
abbrev pub IsTold : Basis → PeerMessage → Type 0
IsTold basis (PeerMessage.WindowMessage w) = IsWord basis w
IsTold basis (PeerMessage.Ended f) = MayEndBy basis f

-- The lot's rows are those that the run has there, and where it says so it goes up to the moment after the end, to which its part
-- has come.
pub record IsLotOfRun (basis : Basis) (lot : RowBatch) : Type 0 where
  pub rows : IsLot basis.setup (division_of basis) lot.from lot.since lot.until lot.rows.items
  pub last : lot.last ≡ true → (lot.until ≡ basis.setup.end + 1) × HasLasted (plan_of basis) lot.from lot.round

-- a worker may deliver this to who writes
abbrev pub IsDelivered : Basis → Delivery → Type 0
IsDelivered basis (Delivery.RowBatch lot) = IsLotOfRun basis lot
IsDelivered basis (Delivery.Ended f) = MayEndBy basis f

-- what a ring allows, of whatever run it is: it has no memory of what went before
abbrev pub AllowsTold : Option Basis → List PeerMessage → PeerMessage → Type 0
AllowsTold None before told = Unit {0}
AllowsTold (Some basis) before told = IsTold basis told
