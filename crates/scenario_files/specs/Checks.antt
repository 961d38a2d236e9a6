-- The checks of a run, before its files are made.
use Rattle.std.specs.Prelude.{◌⊎◌, ℕ, Ok}
use Rattle.scenario.specs.Setup.{Setup, member_count}
use Rattle.scenario.specs.Division.{Deal}
use Rattle.command_line.specs.Division.{AsksForWorkers, Divides}
use Rattle.command_line.specs.Failures.{RefusesDivision, RefusesWorkers}
use Rattle.command_line.specs.declared.words.RunWords.{RunWords}
use Rattle.command_line.specs.declared.failure.Failure.{Failure}
use Rattle.scenario_files.specs.Shelves.{Shelf, word_given}
use Rattle.scenario_files.specs.Loading.{HasVerdict, LoadFails}

-- All were passed: the words name so many workers, the file holds this scenario, and its members
-- are divided so, as the words say.
pub record PassesChecks (before : Shelf) (run : RunWords) (workers : ℕ) (s : Setup) (deal : Deal) : Type 0 where
  pub asked : AsksForWorkers (word_given run.workers) workers
  pub accepted : HasVerdict (before run.file.now) (Ok s)
  pub divided : Divides (member_count s) workers run.split deal

-- The check of a run that failed. Of several causes it is the first of workers, the file and its text, division.
abbrev pub FailsCheck : Shelf → RunWords → Failure → Type 0
FailsCheck before run failure =
    RefusesWorkers (word_given run.workers) failure
    ⊎ (((workers : ℕ) × AsksForWorkers (word_given run.workers) workers × LoadFails (before run.file.now) run.file.now failure)
    ⊎ ((workers : ℕ) × (s : Setup) × AsksForWorkers (word_given run.workers) workers × HasVerdict (before run.file.now) (Ok s)
    × RefusesDivision (member_count s) run.split failure))
