-- What goes over the relays of a run, from each of its parts to who writes.
use Rattle.std.specs.Prelude.{ℕ, Bool, true, false, List}
use Rattle.std.specs.List.{list_any}
use Rattle.relay.specs.declared.relay.Relay.{Relay}
use Rattle.scenario.specs.Setup.{Setup}
use Rattle.scenario.specs.Division.{Deal}
use Rattle.lookahead_windows.specs.Basis.{Basis}
use Rattle.parallel_run.specs.declared.row_batch.Delivery.{Delivery}
use Rattle.parallel_run.specs.declared.row_relay.RunBasis.{RunBasis}
use Rattle.parallel_run.specs.declared.row_relay.RowItems.{RowItems}

-- the relay of a part
abbrev pub RowRelay : Type 0
RowRelay = Relay Delivery Delivery RunBasis RowItems

-- a run of that scenario, by these parts and with these ways into them
abbrev pub basis_by : Setup → Deal → List ℕ → Basis
basis_by setup deal ways = record { setup = setup; deal = deal; ways = ways }

-- what the run goes by
abbrev pub basis_in : RunBasis → Basis
basis_in run = basis_by run.scenario.value run.division.value run.ways.value.items

-- a part sends nothing after its last batch, nor after the fault by which it ends
abbrev pub is_end : Delivery → Bool
is_end (Delivery.RowBatch lot) = lot.last
is_end (Delivery.Ended fault) = true

abbrev pub is_last_batch : Delivery → Bool
is_last_batch (Delivery.RowBatch lot) = lot.last
is_last_batch (Delivery.Ended fault) = false

-- the last batch of the part is among them
abbrev pub has_last_batch : List Delivery → Bool
has_last_batch deliveries = list_any is_last_batch deliveries
