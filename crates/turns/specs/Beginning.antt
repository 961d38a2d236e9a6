-- How far a run has come.
use Rattle.std.specs.Prelude.{List}
use Rattle.scenario.specs.Setup.{Setup}
use Rattle.trace.specs.declared.row.Row.{Row}
use Rattle.member_laws.specs.Runs.{IsRunOf}
use Rattle.windows.specs.Play.{IsBeginning}

-- these rows are the first of the scenario's run
abbrev pub BeginsRun : Setup → List Row → Type 0
BeginsRun s front = (rows : List Row) × IsRunOf s rows × IsBeginning front rows
