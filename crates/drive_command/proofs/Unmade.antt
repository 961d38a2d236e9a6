-- Why a drive was not done whose files can't be made.
use Rattle.std.proofs.Common.{◌≡◌, ℕ, List, Option, Result, IfErr}
use Rattle.std.specs.Prelude.{IsErrAnd}
use Rattle.scenario.specs.Setup.{Setup}
use Rattle.files.specs.Files.{Making}
use Rattle.command_line.specs.declared.driving.DriveWords.{DriveWords}
use Rattle.command_line.specs.declared.failure.Failure.{Failure}
use Rattle.command_line.specs.declared.failure.Failure.TheVariants.{File, Usage, Preset, NoItem, Rule, Mistaken, Setting, Shards, Workers, Division, Run, Memory, Drive, Output}
use Rattle.scenario_files.specs.Shelves.{Shelf, word_given}
use Rattle.scenario_files.proofs.Held.{handed_on}
use Rattle.drive_command.specs.Making.{MakeFails}
use Rattle.drive_command.specs.Outcomes.{DriveEnds}

module _ (Refused : Type 0) (s : Setup) (release : List ℕ) (before after : Shelf) (making : Making) (drive : DriveWords) (gave : List (List ℕ)) (told : List ℕ) where
  abbrev pub Unmade : Failure → Type 0
  Unmade failure = MakeFails before after making drive.file.now drive.trace.now (word_given drive.report) (word_given drive.page) failure

  unmade_ends : (failure : Failure) → Unmade failure → DriveEnds Refused s release before after making drive gave told failure
  unmade_ends (File name) fails = fails
  unmade_ends Memory fails = fails
  unmade_ends Usage fails = absurd fails
  unmade_ends Preset fails = absurd fails
  unmade_ends (NoItem key) fails = absurd fails
  unmade_ends (Rule rule) fails = absurd fails
  unmade_ends (Mistaken rule) fails = absurd fails
  unmade_ends (Setting rule swept_keys) fails = absurd fails
  unmade_ends (Shards cause) fails = absurd fails
  unmade_ends Workers fails = absurd fails
  unmade_ends (Division cause) fails = absurd fails
  unmade_ends (Run cause) fails = absurd fails
  unmade_ends (Drive stop) fails = absurd fails
  unmade_ends Output fails = absurd fails

  pub unmade : {T : Type 0} (result : Result T Failure) (failure : Failure) → IsErrAnd result (λ y. y ≡ failure) → Unmade failure
      → IfErr result (DriveEnds Refused s release before after making drive gave told)
  unmade result failure gives fails = handed_on (DriveEnds Refused s release before after making drive gave told) result failure gives (unmade_ends failure fails)
