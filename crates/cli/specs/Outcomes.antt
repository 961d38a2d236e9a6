-- What a command has done once it ends: on standard output, and in the files as far as they are known.
use Rattle.std.specs.Prelude.{◌≡◌, ◌≢◌, ◌⊎◌, ℕ, ◌≤◌, List, Option, Ok}
use Rattle.std.specs.Io.KnownBytes.{Appends, Keeps}
use Rattle.base.specs.declared.fault.Fault.{Fault}
use Rattle.base.specs.declared.fault.Fault.TheVariants as fault
use Rattle.scenario.specs.Setup.{Setup, member_count}
use Rattle.member_laws.specs.Runs.{CounterOverflows}
use Rattle.run_output.specs.Promise.{ReportOverflows}
use Rattle.clap.specs.Words.{Text}
use Rattle.files.specs.Files.{KnownFile, Making}
use Rattle.command_line.specs.Words.{AsksForRun, AsksForCheck, AsksForDrive, AsksForExpand, AsksForExplain, AsksForHelp, AsksForInit, AsksForNoPreset, AsksForVersion, IsNoCommand}
use Rattle.command_line.specs.Printed.{rows_line, members_line, release_line, HasText, PrintsPreset}
use Rattle.command_line.specs.Failures.{status_of, IsMistaken}
use Rattle.command_line.specs.declared.release.Release.{Release}
use Rattle.command_line.specs.declared.explaining.ExplainWords.{ExplainWords}
use Rattle.command_line.specs.declared.words.RunWords.{RunWords}
use Rattle.command_line.specs.declared.failure.Failure.{Failure}
use Rattle.command_line.specs.declared.failure.Failure.TheVariants.{Usage, Preset, NoItem, Mistaken, Memory, Output}
use Rattle.presets.specs.declared.preset.Preset.{Preset as AnyPreset}
use Rattle.scenario_files.specs.Shelves.{Shelf, IsRefused}
use Rattle.scenario_files.specs.Loading.{HasVerdict, LoadFails}
use Rattle.join_command.specs.Outcomes.{DoesJoin, DoesNotJoin, DoesNotPage, DoesPage}
use Rattle.explain_command.specs.Outcomes.{ExplainFails, IsExplained, PrintsMeaning}
use Rattle.expand_command.specs.Outcomes.{ExpandFails, ExpandsTo}
use Rattle.run_command.specs.Outcomes.{AsksForRunProgress, DoesRun, EndsWithCause, RunFails}
use Rattle.drive_command.specs.Outcomes.{DoesDrive, DriveFails}
use Rattle.command_line.specs.declared.driving.DriveWords.{DriveWords}
use Rattle.sweep_command.specs.Outcomes.{AsksForProgress as AsksForSweepProgress, DoesSweep, DoesNotSweep}

-- the words ask for a run or a sweep that reports how far it has come
abbrev pub AsksForProgress : List Text → Type 0
AsksForProgress words = AsksForRunProgress words ⊎ AsksForSweepProgress words

-- ---- what was done

-- the file holds a scenario of so many members
pub record HoldsScenario (known : KnownFile) (members : ℕ) : Type 0 where
  pub scenario : Setup
  pub accepted : HasVerdict known (Ok scenario)
  pub counted : members ≡ member_count scenario

-- the file that the words ask to check holds a scenario of so many members
abbrev pub DoesCheck : List Text → Shelf → Shelf → ℕ → Type 0
DoesCheck words before after members = (file : Text) × AsksForCheck words file × HoldsScenario (before file) members × (after ≡ before)

-- what the scenario of the file means that the words ask to explain was printed
abbrev pub DoesExplain : List Text → Shelf → Shelf → Option (List ℕ) → Option (List ℕ) → Type 0
DoesExplain words before after old new =
    (explain : ExplainWords) × AsksForExplain words explain × PrintsMeaning (before explain.file.now) explain old new × (after ≡ before)

-- the scenario of the file that the words ask to expand stands for this plain text
abbrev pub DoesExpand : List Text → Shelf → Shelf → List ℕ → Type 0
DoesExpand words before after text = (file : Text) × AsksForExpand words file × ExpandsTo (before file) text × (after ≡ before)

-- the scenario of the preset that the words ask for was printed
abbrev pub DoesInit : List Text → Shelf → Shelf → Option (List ℕ) → Option (List ℕ) → Type 0
DoesInit words before after old new = (preset : AnyPreset) × AsksForInit words preset × PrintsPreset preset old new × (after ≡ before)

-- there is such a text
abbrev pub HasPreset : List Text → Shelf → Shelf → Type 0
HasPreset words before after = (preset : AnyPreset) × AsksForInit words preset × HasText preset × (after ≡ before)

abbrev pub DoesHelp : List Text → Shelf → Shelf → Type 0
DoesHelp words before after = AsksForHelp words × (after ≡ before)

abbrev pub DoesVersion : List Text → Shelf → Shelf → Type 0
DoesVersion words before after = AsksForVersion words × (after ≡ before)

-- What the words ask for was done, where the harness has given these lines and got this: a run, and the number of its rows printed; a check, and the number of members
-- printed; what a scenario means printed; a sweep, and the lines of its settings printed; a preset's scenario printed; shards joined, and the lines of
-- the settings printed; a page of shards made, and nothing printed; a drive, and nothing else printed; help was printed; the line of this release; or the
-- plain text for which a scenario stands
abbrev pub HasDone : Release → List Text → Shelf → Shelf → Making → Option (List ℕ) → Option (List ℕ) → List (List ℕ) → List ℕ → Type 0
HasDone release words before after making old new gave told = ((count : ℕ) × DoesRun release.version.now words before after making count × Appends old new (rows_line count))
    ⊎ (((members : ℕ) × DoesCheck words before after members × Appends old new (members_line members))
    ⊎ (DoesExplain words before after old new
    ⊎ (((lines : List ℕ) × DoesSweep release.version.now words before after making lines × Appends old new lines)
    ⊎ (DoesInit words before after old new
    ⊎ (((lines : List ℕ) × DoesJoin release.version.now words before after making lines × Appends old new lines)
    ⊎ ((DoesPage release.version.now words before after making × Keeps old new)
    ⊎ ((DoesDrive release.version.now words before after making gave told × Keeps old new)
    ⊎ (DoesHelp words before after
    ⊎ ((DoesVersion words before after × Appends old new (release_line release))
    ⊎ ((text : List ℕ) × DoesExpand words before after text × Appends old new text))))))))))

-- there is a text on the scenario of the file that the words ask to explain
abbrev pub Explains : List Text → Shelf → Shelf → Type 0
Explains words before after =
    (explain : ExplainWords) × AsksForExplain words explain × IsExplained (before explain.file.now) explain × (after ≡ before)

-- the same, but that standard output took less than it was given; of a scenario that is refused too it was to get the diagnostics
abbrev pub DoneUnprinted : List Text → Shelf → Shelf → Making → Type 0
DoneUnprinted words before after making = ((version : List ℕ) × (count : ℕ) × DoesRun version words before after making count)
    ⊎ (((members : ℕ) × DoesCheck words before after members)
    ⊎ (Explains words before after
    ⊎ (((version : List ℕ) × (lines : List ℕ) × DoesSweep version words before after making lines)
    ⊎ (HasPreset words before after
    ⊎ (((version : List ℕ) × (lines : List ℕ) × DoesJoin version words before after making lines)
    ⊎ (DoesHelp words before after ⊎ (DoesVersion words before after ⊎ ((text : List ℕ) × DoesExpand words before after text))))))))

-- ---- what was not done

-- By which faults the run of a scenario by so many workers may end: by a counter overflow only where a counter would pass its limit, by
-- what threads lost only where there are several workers.
abbrev pub EndsRunBy : Setup → ℕ → Fault → Type 0
EndsRunBy s workers cause = (cause ≡ fault.CounterOverflow → CounterOverflows s ⊎ ReportOverflows s) × (cause ≡ fault.ThreadLost → 2 ≤ workers)

-- why the file was not checked
abbrev pub CheckFails : Shelf → Shelf → Text → Failure → Type 0
CheckFails before after file failure = IsRefused before after (LoadFails (before file) file failure)

-- why the scenario of the file isn't explained: the file was not read, or standard output has got the diagnostics of its text
abbrev pub DoesNotExplain : List Text → Shelf → Shelf → Option (List ℕ) → Option (List ℕ) → Failure → Type 0
DoesNotExplain words before after old new failure = (explain : ExplainWords) × AsksForExplain words explain
    × IsRefused before after (ExplainFails (before explain.file.now) explain old new failure)

-- why a drive that the words ask for was not done
abbrev pub DoesNotDrive : Type 0 → List Text → Shelf → Shelf → Making → List (List ℕ) → List ℕ → Failure → Type 0
DoesNotDrive Refused words before after making gave told failure =
    (drive : DriveWords) × AsksForDrive words drive × ((version : List ℕ) × DriveFails Refused version before after making drive gave told failure)

-- why the scenario of the file that the words ask to expand has no plain text
abbrev pub DoesNotExpand : List Text → Shelf → Shelf → Failure → Type 0
DoesNotExpand words before after failure =
    (file : Text) × AsksForExpand words file × IsRefused before after (ExpandFails (before file) file failure)

-- Why a run, a check, an explanation, a sweep, a joining, a page of shards, a drive or a plain text that the words ask for was not done. By a failed write a
-- run, a sweep, a joining, a page or a drive ends only where a file refused one, as `Refused` says.
abbrev pub DoesNot : Type 0 → List Text → Shelf → Shelf → Making → Option (List ℕ) → Option (List ℕ) → List (List ℕ) → List ℕ → Failure → Type 0
DoesNot Refused words before after making old new gave told failure =
    ((run : RunWords) × AsksForRun words run × ((version : List ℕ) × RunFails (λ s workers. EndsWithCause Refused (EndsRunBy s workers)) version before after making run failure))
    ⊎ (((file : Text) × AsksForCheck words file × CheckFails before after file failure)
    ⊎ (DoesNotExplain words before after old new failure
    ⊎ (DoesNotSweep Refused words before after making failure
    ⊎ (DoesNotJoin Refused words before after making failure
    ⊎ (DoesNotPage Refused words before after making failure
    ⊎ (DoesNotDrive Refused words before after making gave told failure ⊎ DoesNotExpand words before after failure))))))

-- why what the words ask for wasn't done
abbrev pub Fails : Type 0 → List Text → Shelf → Shelf → Making → Option (List ℕ) → Option (List ℕ) → List (List ℕ) → List ℕ → Failure → Type 0
Fails Refused words before after making old new gave told Usage = IsNoCommand words × (after ≡ before)
Fails Refused words before after making old new gave told Preset = AsksForNoPreset words × (after ≡ before)
Fails Refused words before after making old new gave told (NoItem key) = DoesNotSweep Refused words before after making (NoItem key)
Fails Refused words before after making old new gave told Output = DoneUnprinted words before after making
Fails Refused words before after making old new gave told (Mistaken rule) = DoesNotExplain words before after old new (Mistaken rule)
Fails Refused words before after making old new gave told Memory = after ≡ before
Fails Refused words before after making old new gave told failure = DoesNot Refused words before after making old new gave told failure

-- How a command ended that answered this status, which isn't 0: by a failure of that status. Standard output is as it was,
-- unless it failed itself or has got the diagnostics of a text that was to be explained.
pub record Ends {O : Type 0} (Refused : Type 0) (words : List Text) (before after : Shelf) (making : Making) (contents : O → Option (List ℕ)) (old new : O)
    (gave : List (List ℕ)) (told_harness : List ℕ) (status : ℕ) : Type 0 where
  pub failure : Failure
  pub told : status ≡ status_of failure
  pub cause : Fails Refused words before after making (contents old) (contents new) gave told_harness failure
  pub silent : failure ≢ Output → ¬ (IsMistaken failure) → new ≡ old
