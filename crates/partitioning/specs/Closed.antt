-- The relays and the board of a run by several workers.
use Rattle.std.specs.Prelude.{◌≡◌, length}
use Rattle.scenario.specs.Setup.{Setup, member_count}
use Rattle.scenario.specs.Division.{Deal}
use Rattle.parallel_run.specs.Relays.{AreClosed}
use Rattle.parallel_run.specs.Settled.{IsSettled}
use Rattle.parallel_run.specs.declared.closed_relay.RunAccount.{RunAccount}

-- the relays of the parts into which the run divided the scenario's members were closed
abbrev pub ClosesRelays : Setup → RunAccount → Type 0
ClosesRelays s account = (deal : Deal) × (length deal.part_of ≡ member_count s) × AreClosed s deal account

-- what was dealt and taken on the board of the run by those parts
abbrev pub SettlesBoard : Setup → RunAccount → Type 0
SettlesBoard s account = (deal : Deal) × (length deal.part_of ≡ member_count s) × AreClosed s deal account × IsSettled deal account
