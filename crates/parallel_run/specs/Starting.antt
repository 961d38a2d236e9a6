-- What the threads of a run begin with.
use Rattle.std.specs.Prelude.{◌≡◌, ℕ, List, Option, Some}
use Rattle.lookahead_windows.specs.Gates.{KnowsAll}
use Rattle.scenario.specs.Setup.{Setup}
use Rattle.trace.specs.declared.row.Row.{Row}
use Rattle.lookahead_windows.specs.declared.course.Rounds.{Rounds}
use Rattle.lookahead_windows.specs.Basis.{Basis, basis_of, GoBy}
use Rattle.lookahead_windows.specs.Bounds.{AwaitsRounds}
use Rattle.parallel_run.specs.Writing.{MayTake}

-- The threads of the run that goes by these rounds may start: who writes has written nothing yet, and the gate allows for each of so
-- many workers, and for each part in each round below its own bound there.
pub record MayStart (given : Option Basis) (knows : ℕ → Type 0) (awaits : ℕ → ℕ → ℕ → Type 0) (rounds : Rounds) (workers : ℕ) (setup : Setup) (count : ℕ) (tallied : List Row) : Type 0 where
  pub going : GoBy rounds
  pub run : given ≡ Some (basis_of rounds)
  pub known : KnowsAll knows workers
  pub windows : AwaitsRounds awaits (basis_of rounds)
  pub writes : MayTake (basis_of rounds) setup count tallied
