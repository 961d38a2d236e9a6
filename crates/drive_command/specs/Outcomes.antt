-- What a drive has done once it ends, in the files as far as they are known, and why one was not done.
use Rattle.std.specs.Prelude.{◌≡◌, ◌≢◌, ◌⊎◌, ◌++◌, ℕ, List, [], Option, Some, None, Ok, IfSome, true, false, string_bytes}
use Rattle.base.specs.declared.fault.Fault.{Fault}
use Rattle.base.specs.declared.fault.Fault.TheVariants as fault
use Rattle.scenario.specs.Setup.{Setup}
use Rattle.trace.specs.Text.{trace_text}
use Rattle.trace.specs.declared.row.Row.{Row}
use Rattle.reports.specs.Text.{report_text}
use Rattle.page_runs.specs.Pages.{IsPageOf}
use Rattle.clap.specs.Words.{Text}
use Rattle.files.specs.Files.{KnownFile, Making, HoldsNow, CannotMake, CannotMakeSecond, CannotMakeThird, AreThreeFiles, AreFourFiles}
use Rattle.drive_events.specs.Line.{end_line}
use Rattle.drive_world.specs.declared.ends.Stop.{Stop}
use Rattle.drive_world.specs.Drives.{BeginsDrive, DrivesTo, DrivesUpTo, StopsAt}
use Rattle.command_line.specs.declared.answers.AnswerFault.{AnswerFault}
use Rattle.drive_command.specs.Ends.{cause_of}
use Rattle.drive_world.specs.Ends.{DrivesToBy}
use Rattle.command_line.specs.Words.{AsksForDrive}
use Rattle.command_line.specs.declared.driving.DriveWords.{DriveWords}
use Rattle.command_line.specs.declared.failure.Failure.{Failure}
use Rattle.command_line.specs.declared.failure.Failure.TheVariants.{File, Run, Memory, Drive}
use Rattle.command_line.specs.declared.answers.DriveStop.TheVariants as stop
use Rattle.scenario_files.specs.Shelves.{Shelf, word_given, IsRefused, HoldsBeginning}
use Rattle.scenario_files.specs.Loading.{HasVerdict, LoadFails}

-- ---- what was done

-- the file of this name, where one is asked for, holds this text now
abbrev pub HoldsAsked : Shelf → Shelf → Option Text → List ℕ → Type 0
HoldsAsked before after name text = IfSome name (λ n. HoldsNow (before n) (after n) text)

-- it holds the page of these rows now, which bears the scenario's name and this release
abbrev pub HoldsPage : Text → List ℕ → Setup → List Row → KnownFile → KnownFile → Type 0
HoldsPage name release s rows old new = (text : List ℕ) × IsPageOf None name s rows release text × HoldsNow old new text

-- no file has changed but those of the trace, the report and the page
abbrev pub KeepsRest : Shelf → Shelf → Text → Option Text → Option Text → Type 0
KeepsRest before after trace report page = (other : Text) → other ≢ trace → report ≢ Some other → page ≢ Some other → after other ≡ before other

-- but those that the words name
abbrev pub KeepsOthers : Shelf → Shelf → DriveWords → Type 0
KeepsOthers before after drive = KeepsRest before after drive.trace.now (word_given drive.report) (word_given drive.page)

-- the files of a scenario, a trace, a report and a page, where they are asked for, are different ones
abbrev pub AreDifferent : Making → Text → Text → Option Text → Option Text → Type 0
AreDifferent making file trace None None = making.are_one file trace ≡ false
AreDifferent making file trace (Some report) None = AreThreeFiles making file trace report
AreDifferent making file trace None (Some page) = AreThreeFiles making file trace page
AreDifferent making file trace (Some report) (Some page) = AreFourFiles making file trace report page

abbrev pub AreApart : Making → DriveWords → Type 0
AreApart making drive = AreDifferent making drive.file.now drive.trace.now (word_given drive.report) (word_given drive.page)

-- The files hold the trace of a drive of the scenario to its end by these lines of the harness, and the report on it and its page where they
-- are asked for, all of the same rows. The drive's events have these lines. No other file has changed.
pub record StoresDrive (s : Setup) (release : List ℕ) (before after : Shelf) (drive : DriveWords) (came_in : List (List ℕ)) (lines : List ℕ) : Type 0 where
  pub rows : List Row
  pub driven : DrivesTo s came_in lines rows
  pub traced : HoldsNow (before drive.trace.now) (after drive.trace.now) (trace_text s rows)
  pub reported : HoldsAsked before after (word_given drive.report) (report_text s rows)
  pub paged : IfSome (word_given drive.page) (λ name. HoldsPage drive.file.now release s rows (before name) (after name))
  pub others : KeepsOthers before after drive

-- the drive of a scenario was done by this release, and the harness was sent the end behind all events
pub record DrivesScenario (s : Setup) (release : List ℕ) (before after : Shelf) (making : Making) (drive : DriveWords) (came_in : List (List ℕ)) (told : List ℕ) : Type 0 where
  pub apart : AreApart making drive
  pub lines : List ℕ
  pub stored : StoresDrive s release before after drive came_in lines
  pub ended : told ≡ lines ++ end_line s

-- the drive that the words of `drive` ask for was done, of the scenario that the file holds
pub record DrivesAll (release : List ℕ) (before after : Shelf) (making : Making) (drive : DriveWords) (came_in : List (List ℕ)) (told : List ℕ) : Type 0 where
  pub scenario : Setup
  pub accepted : HasVerdict (before drive.file.now) (Ok scenario)
  pub done : DrivesScenario scenario release before after making drive came_in told

-- a drive that the words ask for was done by this release
abbrev pub DoesDrive : List ℕ → List Text → Shelf → Shelf → Making → List (List ℕ) → List ℕ → Type 0
DoesDrive release words before after making came_in told = (drive : DriveWords) × AsksForDrive words drive × DrivesAll release before after making drive came_in told

-- ---- what was not done

-- The drive came so far that the trace has these rows. The report and the page are empty. No other file has changed.
pub record LeavesRows (Came : List Row → Type 0) (s : Setup) (before after : Shelf) (drive : DriveWords) : Type 0 where
  pub rows : List Row
  pub came : Came rows
  pub traced : HoldsNow (before drive.trace.now) (after drive.trace.now) (trace_text s rows)
  pub reported : HoldsAsked before after (word_given drive.report) []
  pub paged : HoldsAsked before after (word_given drive.page) []
  pub others : KeepsOthers before after drive

-- It came up to an event that was to be answered and wasn't: its rows are those of all events before that one. The place, the cause and
-- the event that are said are those of the answer that is none.
pub record StopsDrive (s : Setup) (before after : Shelf) (drive : DriveWords) (came_in : List (List ℕ)) (told : List ℕ) (place : ℕ) (cause : AnswerFault) (event : List ℕ) : Type 0 where
  pub why : Stop
  pub tells : cause_of why ≡ Some cause
  pub left : LeavesRows (StopsAt s place why event came_in told) s before after drive

-- how far it comes where nothing can be sent to the harness: these lines are those that should have been sent
abbrev pub ComesUntold : Setup → List (List ℕ) → List Row → Type 0
ComesUntold s came_in rows = (lines : List ℕ) × (DrivesUpTo s came_in lines rows ⊎ DrivesToBy s came_in lines rows)

-- the same where nothing more could be sent to the harness; where no answer is missing, the rows are those of all events
abbrev pub LosesHarness : Setup → Shelf → Shelf → DriveWords → List (List ℕ) → Type 0
LosesHarness s before after drive came_in = LeavesRows (ComesUntold s came_in) s before after drive

-- the file of this name, where one is asked for, holds a beginning of this text now
abbrev pub BeginsAsked : Shelf → Shelf → Option Text → List ℕ → Type 0
BeginsAsked before after name text = IfSome name (λ n. HoldsBeginning (before n) (after n) text)

-- it is empty, or holds a beginning of the page
abbrev pub BeginsPageAsked : Text → List ℕ → Setup → List Row → Shelf → Shelf → Option Text → Type 0
BeginsPageAsked file release s rows before after name =
    IfSome name (λ n. HoldsNow (before n) (after n) [] ⊎ ((text : List ℕ) × IsPageOf None file s rows release text × HoldsBeginning (before n) (after n) text))

-- A fault ended it: in the trace, which has a beginning of its text, when the report and the page are empty; in the report, when the trace
-- is whole and the page empty; or in the page, when both are whole. No other file has changed.
pub record BreaksOff (s : Setup) (release : List ℕ) (before after : Shelf) (drive : DriveWords) (came_in : List (List ℕ)) (told : List ℕ) : Type 0 where
  pub rows : List Row
  pub written : ((BeginsDrive s rows ⊎ DrivesTo s came_in told rows) × HoldsBeginning (before drive.trace.now) (after drive.trace.now) (trace_text s rows)
      × HoldsAsked before after (word_given drive.report) [] × HoldsAsked before after (word_given drive.page) [])
      ⊎ ((DrivesTo s came_in told rows × HoldsNow (before drive.trace.now) (after drive.trace.now) (trace_text s rows)
      × BeginsAsked before after (word_given drive.report) (report_text s rows) × HoldsAsked before after (word_given drive.page) [])
      ⊎ (DrivesTo s came_in told rows × HoldsNow (before drive.trace.now) (after drive.trace.now) (trace_text s rows)
      × HoldsAsked before after (word_given drive.report) (report_text s rows)
      × BeginsPageAsked drive.file.now release s rows before after (word_given drive.page)))
  pub others : KeepsOthers before after drive

-- the file of a page can't be made, or it is that of the scenario, of the trace or of the report
abbrev pub CannotMakePage : Making → Text → Text → Option Text → Text → Type 0
CannotMakePage making file trace None page = CannotMakeSecond making file trace page
CannotMakePage making file trace (Some report) page = CannotMakeThird making file trace report page

-- The file of this name can't be made: it is that of the trace, of the report or of the page.
abbrev pub IsUnmade : Making → Text → Text → Option Text → Option Text → Text → Type 0
IsUnmade making file trace report page name = ((name ≡ trace) × CannotMake making file trace)
    ⊎ (((report ≡ Some name) × CannotMakeSecond making file trace name)
    ⊎ ((page ≡ Some name) × CannotMakePage making file trace report name))

-- Why a drive of this scenario was not done. Where its trace, its report and its page are whole, only the end couldn't be sent.
abbrev pub DriveEnds : Type 0 → Setup → List ℕ → Shelf → Shelf → Making → DriveWords → List (List ℕ) → List ℕ → Failure → Type 0
DriveEnds Refused s release before after making drive came_in told (File name) =
    IsUnmade making drive.file.now drive.trace.now (word_given drive.report) (word_given drive.page) name.now × (after ≡ before)
DriveEnds Refused s release before after making drive came_in told Memory = after ≡ before
DriveEnds Refused s release before after making drive came_in told (Drive (stop.Answer place cause event)) =
    AreApart making drive × StopsDrive s before after drive came_in told place cause (string_bytes event)
DriveEnds Refused s release before after making drive came_in told (Drive stop.Closed) =
    AreApart making drive × (LosesHarness s before after drive came_in ⊎ ((lines : List ℕ) × StoresDrive s release before after drive came_in lines))
DriveEnds Refused s release before after making drive came_in told (Run cause) =
    AreApart making drive × (BreaksOff s release before after drive came_in told ⊎ ((lines : List ℕ) × StoresDrive s release before after drive came_in lines))
    × (cause ≡ fault.Write → Refused)
DriveEnds Refused s release before after making drive came_in told _ = ⊥

-- why the drive that the words of `drive` ask for was not done by this release: the scenario wasn't read, or what befell the drive
abbrev pub DriveFails : Type 0 → List ℕ → Shelf → Shelf → Making → DriveWords → List (List ℕ) → List ℕ → Failure → Type 0
DriveFails Refused release before after making drive came_in told failure =
    IsRefused before after (LoadFails (before drive.file.now) drive.file.now failure)
    ⊎ ((s : Setup) × HasVerdict (before drive.file.now) (Ok s) × DriveEnds Refused s release before after making drive came_in told failure)
