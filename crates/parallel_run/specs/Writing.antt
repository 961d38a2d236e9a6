-- What who writes knows.
use Rattle.std.specs.Prelude.{◌≡◌, ℕ, ◌++◌, List, [], Result, Ok, Err}
use Rattle.std.specs.Bool.{OnTrue}
use Rattle.base.specs.declared.fault.Fault.{Fault}
use Rattle.scenario.specs.Setup.{Setup}
use Rattle.trace.specs.declared.row.Row.{Row}
use Rattle.member_laws.specs.Runs.{IsRunOf, CounterOverflows}
use Rattle.lookahead_windows.specs.Before.{AreRowsBefore}
use Rattle.lookahead_windows.specs.Faults.{first_fault}
use Rattle.parallel_run.specs.declared.row_batch.RowBatch.{RowBatch}
use Rattle.parallel_run.specs.declared.batches.MergedBatch.{MergedBatch}
use Rattle.lookahead_windows.specs.Basis.{Basis, IsBasis}

-- these rows are those of the run before the moment
abbrev pub HasComeTo : Basis → ℕ → List Row → Type 0
HasComeTo basis t rows = AreRowsBefore basis.setup t rows

-- the lot goes as far as the turn, and was sent before the same round
abbrev pub GoesAsFar : RowBatch → MergedBatch → Type 0
GoesAsFar lot turn = (lot.until ≡ turn.until) × (lot.round ≡ turn.round) × (lot.last ≡ turn.last)

-- The turn's rows are the next of the run, from that moment on; where it is the last, they are the rest, and there was no counter overflow.
pub record IsNextTurn (basis : Basis) (since : ℕ) (turn : MergedBatch) : Type 0 where
  pub next : (before : List Row) → HasComeTo basis since before → HasComeTo basis turn.until (before ++ turn.rows.items)
  pub whole : OnTrue turn.last ((before : List Row) → HasComeTo basis since before → IsRunOf basis.setup (before ++ turn.rows.items))
  pub lasts : OnTrue turn.last (¬ (CounterOverflows basis.setup))

-- The scenario is that of the run, there is an end of a relay for each of its parts, and nothing is tallied yet.
pub record MayTake (basis : Basis) (setup : Setup) (count : ℕ) (tallied : List Row) : Type 0 where
  pub basis_is : IsBasis basis
  pub one : setup ≡ basis.setup
  pub takers : count ≡ basis.deal.parts
  pub none_tallied : tallied ≡ []

-- of the writer's own fault, where there is one, and another the first
abbrev pub fault_beside : Result (Unit {0}) Fault → Fault → Fault
fault_beside (Ok _) f = f
fault_beside (Err own) f = first_fault own f
