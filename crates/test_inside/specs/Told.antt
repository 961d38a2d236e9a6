-- Of which run a gate gets the windows.
use Rattle.std.specs.Prelude.{◌≡◌, ℕ, Option, Some}
use Rattle.scenario.specs.Setup.{Setup}
use Rattle.scenario.specs.Division.{Deal}
use Rattle.lookahead_windows.specs.Bounds.{IsToldOf}

pub record OneRun : Type 0 where
  pub setup : Setup
  pub deal : Deal

abbrev pub one_run : Setup → Deal → OneRun
one_run s deal = record { setup = s; deal = deal }

-- a gate gets windows of that run, and of nothing else
abbrev pub IsToldOfOne : Option OneRun → ℕ → ℕ → ℕ → Type 0
IsToldOfOne given window part bound = (run : OneRun) × (given ≡ Some run) × IsToldOf run.setup run.deal window part bound
