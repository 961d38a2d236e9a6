-- What a run has done once it ends, in the files as far as they are known, and why one was not done.
use Rattle.std.specs.Prelude.{◌≡◌, ◌≢◌, ◌⊎◌, ℕ, List, false, true, [], Option, Some, None, IfSome, length}
use Rattle.std.specs.Borrow.{Bor}
use Rattle.base.specs.declared.fault.Fault.{Fault}
use Rattle.base.specs.declared.fault.Fault.TheVariants as fault
use Rattle.scenario.specs.Setup.{Setup}
use Rattle.scenario.specs.Division.{Deal}
use Rattle.trace.specs.Text.{trace_text}
use Rattle.trace.specs.declared.row.Row.{Row}
use Rattle.reports.specs.Text.{report_text}
use Rattle.member_laws.specs.Runs.{IsRunOf, CounterOverflows}
use Rattle.run_output.specs.Promise.{ReportOverflows}
use Rattle.page_runs.specs.Pages.{IsPageOf}
use Rattle.clap.specs.Words.{Text}
use Rattle.files.specs.Files.{Making, HoldsNow, CannotMake, CannotMakeSecond, CannotMakeThird, AreThreeFiles, AreFourFiles}
use Rattle.ticks.specs.declared.tick.Tick.{Tick}
use Rattle.command_line.specs.Words.{AsksForRun}
use Rattle.command_line.specs.declared.words.RunWords.{RunWords}
use Rattle.command_line.specs.declared.failure.Failure.{Failure}
use Rattle.command_line.specs.declared.failure.Failure.TheVariants.{File, Run, Memory}
use Rattle.scenario_files.specs.Shelves.{Shelf, word_given, IsRefused, HoldsBeginning}
use Rattle.scenario_files.specs.Checks.{PassesChecks, FailsCheck}

-- the words ask for a run that prints how far it has come
abbrev pub AsksForRunProgress : List Text → Type 0
AsksForRunProgress words = (run : RunWords) × AsksForRun words run × (run.progress ≡ true)

-- ---- what was done

-- the file of the report, where one is asked for, holds this text now
abbrev pub HoldsReport : Shelf → Shelf → Option Text → List ℕ → Type 0
HoldsReport before after report text = IfSome report (λ name. HoldsNow (before name) (after name) text)

-- no file has changed but those of the trace and the report
abbrev pub KeepsRest : Shelf → Shelf → Text → Option Text → Type 0
KeepsRest before after trace report = (other : Text) → other ≢ trace → report ≢ Some other → after other ≡ before other

-- the files hold the trace of the scenario's run, which has so many rows, and the report on it where one is asked for; no
-- other file has changed
pub record StoresRun (s : Setup) (before after : Shelf) (trace : Text) (report : Option Text) (count : ℕ) : Type 0 where
  pub rows : List Row
  pub run : IsRunOf s rows
  pub counted : count ≡ length rows
  pub traced : HoldsNow (before trace) (after trace) (trace_text s rows)
  pub reported : HoldsReport before after report (report_text s rows)
  pub others : KeepsRest before after trace report

-- the scenario's file, the trace's and the report's, where one is asked for, are different files
abbrev pub DifferentFiles : Making → Text → Text → Option Text → Type 0
DifferentFiles making file trace None = making.are_one file trace ≡ false
DifferentFiles making file trace (Some report) = AreThreeFiles making file trace report

-- no file has changed but those of the trace, the report and the page
abbrev pub KeepsAllRest : Shelf → Shelf → Text → Option Text → Text → Type 0
KeepsAllRest before after trace report page = (other : Text) → other ≢ trace → report ≢ Some other → other ≢ page → after other ≡ before other

-- the files hold the trace of the scenario's run, which has so many rows, the report on it where one is asked for, and its page under
-- this name by this release, with its times by how long a tick lasts where that is known, all three of the same rows; no other file changed
pub record StoresPaged (s : Setup) (time : Option Tick) (name release : List ℕ) (before after : Shelf) (trace : Text) (report : Option Text) (page : Text) (count : ℕ) : Type 0 where
  pub rows : List Row
  pub run : IsRunOf s rows
  pub counted : count ≡ length rows
  pub traced : HoldsNow (before trace) (after trace) (trace_text s rows)
  pub reported : HoldsReport before after report (report_text s rows)
  pub text : List ℕ
  pub is : IsPageOf time name s rows release text
  pub paged : HoldsNow (before page) (after page) text
  pub others : KeepsAllRest before after trace report page

-- the scenario's file, the trace's, the report's, where one is asked for, and the page's are different files
abbrev pub DifferentPaged : Making → Text → Text → Option Text → Text → Type 0
DifferentPaged making file trace None page = AreThreeFiles making file trace page
DifferentPaged making file trace (Some report) page = AreFourFiles making file trace report page

-- what the words ask for was stored, with a page where one is asked for; that bears the name of the scenario's file
abbrev pub StoresAsked : Option (Bor Text) → Setup → List ℕ → Shelf → Shelf → RunWords → ℕ → Type 0
StoresAsked None s release before after run count = StoresRun s before after run.trace.now (word_given run.report) count
StoresAsked (Some page) s release before after run count = StoresPaged s run.tick run.file.now release before after run.trace.now (word_given run.report) page.now count

-- the files that the words name are different ones
abbrev pub AreApart : Option (Bor Text) → Making → RunWords → Type 0
AreApart None making run = DifferentFiles making run.file.now run.trace.now (word_given run.report)
AreApart (Some page) making run = DifferentPaged making run.file.now run.trace.now (word_given run.report) page.now

-- the run that the words of `run` ask for passed its checks and was done by this release, and has so many rows
pub record RunsAll (release : List ℕ) (before after : Shelf) (making : Making) (run : RunWords) (count : ℕ) : Type 0 where
  pub workers : ℕ
  pub scenario : Setup
  pub deal : Deal
  pub checks : PassesChecks before run workers scenario deal
  pub apart : AreApart run.page making run
  pub stored : StoresAsked run.page scenario release before after run count

-- a run that the words ask for was done by this release, and has so many rows
abbrev pub DoesRun : List ℕ → List Text → Shelf → Shelf → Making → ℕ → Type 0
DoesRun release words before after making count = (run : RunWords) × AsksForRun words run × RunsAll release before after making run count

-- ---- what was not done

-- By which faults the run of a scenario may end: by a counter past its limit only where one would pass it, by what threads lost only
-- where they may lose something.
abbrev pub MayEndRun : Setup → Type 0 → Fault → Type 0
MayEndRun s Loses cause = (cause ≡ fault.CounterOverflow → CounterOverflows s ⊎ ReportOverflows s) × (cause ≡ fault.ThreadLost → Loses)

-- by a fault by which a run may end, and by a failed write only where a file refused one, as `Refused` says
abbrev pub EndsWithCause : Type 0 → (Fault → Type 0) → Fault → Type 0
EndsWithCause Refused EndsBy cause = EndsBy cause × (cause ≡ fault.Write → Refused)

-- the file of the report, where one is asked for, holds a beginning of this text now
abbrev pub BeginsReport : Shelf → Shelf → Option Text → List ℕ → Type 0
BeginsReport before after report text = IfSome report (λ name. HoldsBeginning (before name) (after name) text)

-- the scenario's run was ended by the fault, which is one by which it may end: in its trace, when the report is still empty, or in the report, when the trace is
-- whole; no other file has changed
pub record BreaksOff (EndsBy : Fault → Type 0) (s : Setup) (before after : Shelf) (trace : Text) (report : Option Text) (cause : Fault) : Type 0 where
  pub rows : List Row
  pub run : IsRunOf s rows
  pub written : (HoldsBeginning (before trace) (after trace) (trace_text s rows) × HoldsReport before after report [])
      ⊎ (HoldsNow (before trace) (after trace) (trace_text s rows) × BeginsReport before after report (report_text s rows))
  pub others : KeepsRest before after trace report
  pub may : EndsBy cause
  pub overflow : cause ≡ fault.CounterOverflow → CounterOverflows s ⊎ ReportOverflows s

-- The file of this name can't be made: it is the trace's; or it is the report's, and may be the trace's too. Nor can one that is
-- the scenario's.
abbrev pub IsUnmade : Making → Text → Text → Option Text → Text → Type 0
IsUnmade making file trace report name = ((name ≡ trace) × CannotMake making file trace)
    ⊎ ((report ≡ Some name) × CannotMakeSecond making file trace name)

-- No whole run of the scenario was stored: a file can't be made, memory was refused, or the run broke off. Before it began no file
-- has changed.
abbrev pub StoreFails : (Fault → Type 0) → Setup → Shelf → Shelf → Making → Text → Text → Option Text → Failure → Type 0
StoreFails EndsBy s before after making file trace report (File name) = IsUnmade making file trace report name.now × (after ≡ before)
StoreFails EndsBy s before after making file trace report Memory = after ≡ before
StoreFails EndsBy s before after making file trace report (Run cause) = DifferentFiles making file trace report × BreaksOff EndsBy s before after trace report cause
StoreFails EndsBy s before after making file trace report _ = ⊥

-- The scenario's run was ended by the fault, which is one by which it may end: in its trace, when the report and the page are still
-- empty; in the report, when the trace is whole and the page empty; or in the page, when both are whole. No other file has changed.
pub record BreaksOffPaged (EndsBy : Fault → Type 0) (s : Setup) (time : Option Tick) (name release : List ℕ) (before after : Shelf) (trace : Text) (report : Option Text) (page : Text)
    (cause : Fault) : Type 0 where
  pub rows : List Row
  pub run : IsRunOf s rows
  pub written : (HoldsBeginning (before trace) (after trace) (trace_text s rows) × HoldsReport before after report [] × HoldsNow (before page) (after page) [])
      ⊎ ((HoldsNow (before trace) (after trace) (trace_text s rows) × BeginsReport before after report (report_text s rows) × HoldsNow (before page) (after page) [])
      ⊎ (HoldsNow (before trace) (after trace) (trace_text s rows) × HoldsReport before after report (report_text s rows)
      × ((text : List ℕ) × IsPageOf time name s rows release text × HoldsBeginning (before page) (after page) text)))
  pub others : KeepsAllRest before after trace report page
  pub may : EndsBy cause
  pub overflow : cause ≡ fault.CounterOverflow → CounterOverflows s ⊎ ReportOverflows s

-- the file of a page can't be made, or it is that of the scenario, of the trace or of the report
abbrev pub CannotMakePage : Making → Text → Text → Option Text → Text → Type 0
CannotMakePage making file trace None page = CannotMakeSecond making file trace page
CannotMakePage making file trace (Some report) page = CannotMakeThird making file trace report page

-- The same as of a run without a page, where the file that can't be made may be the page's too.
abbrev pub PagedFails : (Fault → Type 0) → Setup → Option Tick → List ℕ → Shelf → Shelf → Making → Text → Text → Option Text → Text → Failure → Type 0
PagedFails EndsBy s time release before after making file trace report page (File name) =
    (IsUnmade making file trace report name.now ⊎ ((name.now ≡ page) × CannotMakePage making file trace report page)) × (after ≡ before)
PagedFails EndsBy s time release before after making file trace report page Memory = after ≡ before
PagedFails EndsBy s time release before after making file trace report page (Run cause) =
    DifferentPaged making file trace report page × BreaksOffPaged EndsBy s time file release before after trace report page cause
PagedFails EndsBy s time release before after making file trace report page _ = ⊥

-- what the words ask for was not stored, with a page where one is asked for
abbrev pub FailsAsked : Option (Bor Text) → (Fault → Type 0) → Setup → List ℕ → Shelf → Shelf → Making → RunWords → Failure → Type 0
FailsAsked None EndsBy s release before after making run failure =
    StoreFails EndsBy s before after making run.file.now run.trace.now (word_given run.report) failure
FailsAsked (Some page) EndsBy s release before after making run failure =
    PagedFails EndsBy s run.tick release before after making run.file.now run.trace.now (word_given run.report) page.now failure

-- all checks passed, but what the words ask for was not stored whole
pub record FailsToStore (EndsBy : Setup → ℕ → Fault → Type 0) (release : List ℕ) (before after : Shelf) (making : Making) (run : RunWords) (failure : Failure) : Type 0 where
  pub workers : ℕ
  pub scenario : Setup
  pub deal : Deal
  pub checks : PassesChecks before run workers scenario deal
  pub cause : FailsAsked run.page (EndsBy scenario workers) scenario release before after making run failure

-- why the run that the words of `run` ask for was not done by this release: the first check that failed, and after all checks what befell
-- the files. By which faults a run may end is said of the scenario and the number of workers.
abbrev pub RunFails : (Setup → ℕ → Fault → Type 0) → List ℕ → Shelf → Shelf → Making → RunWords → Failure → Type 0
RunFails EndsBy release before after making run failure =
    IsRefused before after (FailsCheck before run failure) ⊎ FailsToStore EndsBy release before after making run failure
