-- What a drive leaves in the sinks of its trace, its report and its page.
use Rattle.std.specs.Prelude.{◌≡◌, ◌⊎◌, ◌+◌, ℕ, List, Option, Some, None}
use Rattle.std.specs.Io.KnownBytes.{Appends}
use Rattle.scenario.specs.Setup.{Setup}
use Rattle.trace.specs.declared.row.Row.{Row}
use Rattle.trace.specs.declared.sink.Put.{Put}
use Rattle.trace.specs.Sinks.{AppendsBeginning}
use Rattle.trace.specs.Text.{trace_text}
use Rattle.trace.specs.Writers.{writer_under, put_failures}
use Rattle.reports.specs.Text.{report_text}
use Rattle.page_runs.specs.Pages.{WritesPage, BeginsPage}
use Rattle.drive_world.specs.Drives.{BeginsDrive, DrivesTo, StopsAt}
use Rattle.drive_world.specs.declared.ends.DriveError.{DriveError}
use Rattle.drive_world.specs.declared.ends.DriveError.TheVariants as error
use Rattle.drive_command.specs.declared.making.Made.{Made}
use Rattle.drive_command.specs.Outcomes.{ComesUntold}

-- ---- a sink where one is asked for: it is one before and after, or none

abbrev pub AppendsAsked : {M : Type 0} → (M → Option (List ℕ)) → List ℕ → Option (Put M) → Option (Put M) → Type 0
AppendsAsked contents text None None = Unit {0}
AppendsAsked contents text (Some old) (Some new) = Appends (contents (writer_under old)) (contents (writer_under new)) text
AppendsAsked contents text None (Some new) = ⊥
AppendsAsked contents text (Some old) None = ⊥

abbrev pub AppendsBeginningAsked : {M : Type 0} → (M → Option (List ℕ)) → List ℕ → Option (Put M) → Option (Put M) → Type 0
AppendsBeginningAsked contents text None None = Unit {0}
AppendsBeginningAsked contents text (Some old) (Some new) = AppendsBeginning (contents (writer_under old)) (contents (writer_under new)) text
AppendsBeginningAsked contents text None (Some new) = ⊥
AppendsBeginningAsked contents text (Some old) None = ⊥

-- the page of these rows was appended, which bears this name and this release
abbrev pub WritesPageAsked : {M : Type 0} → (M → Option (List ℕ)) → List ℕ → List ℕ → Setup → List Row → Option (Put M) → Option (Put M) → Type 0
WritesPageAsked contents name release s rows None None = Unit {0}
WritesPageAsked contents name release s rows (Some old) (Some new) =
    WritesPage None name release s rows (contents (writer_under old)) (contents (writer_under new))
WritesPageAsked contents name release s rows None (Some new) = ⊥
WritesPageAsked contents name release s rows (Some old) None = ⊥

-- nothing was, or a beginning of it
abbrev pub BeginsPageIn : {M : Type 0} → (M → Option (List ℕ)) → List ℕ → List ℕ → Setup → List Row → Option (Put M) → Option (Put M) → Type 0
BeginsPageIn contents name release s rows None None = Unit {0}
BeginsPageIn contents name release s rows (Some old) (Some new) =
    BeginsPage None name release s rows (contents (writer_under old)) (contents (writer_under new))
BeginsPageIn contents name release s rows None (Some new) = ⊥
BeginsPageIn contents name release s rows (Some old) None = ⊥

-- how often it has failed
abbrev pub failures_of : {M : Type 0} → Option (Put M) → ℕ
failures_of None = 0
failures_of (Some put) = put_failures put

-- there is one before and after, or none
abbrev pub HasShape : {M : Type 0} → Option (Put M) → Option (Put M) → Type 0
HasShape None None = Unit {0}
HasShape (Some old) (Some new) = Unit {0}
HasShape None (Some new) = ⊥
HasShape (Some old) None = ⊥

-- ---- all three

-- the text of a trace with these rows was appended
abbrev pub AppendsTrace : {M : Type 0} → (M → Option (List ℕ)) → Setup → List Row → Made M → Made M → Type 0
AppendsTrace contents s rows old new = Appends (contents (writer_under old.trace)) (contents (writer_under new.trace)) (trace_text s rows)

abbrev pub BeginsTraceIn : {M : Type 0} → (M → Option (List ℕ)) → Setup → List Row → Made M → Made M → Type 0
BeginsTraceIn contents s rows old new = AppendsBeginning (contents (writer_under old.trace)) (contents (writer_under new.trace)) (trace_text s rows)

-- the report and the page are as they were
abbrev pub KeepsBoth : {M : Type 0} → Made M → Made M → Type 0
KeepsBoth old new = (new.report ≡ old.report) × (new.page ≡ old.page)

abbrev pub HaveShape : {M : Type 0} → Made M → Made M → Type 0
HaveShape old new = HasShape old.report new.report × HasShape old.page new.page

abbrev pub failures_in : {M : Type 0} → Made M → ℕ
failures_in made = put_failures made.trace + failures_of made.report + failures_of made.page

-- none of them has failed
pub record AreUnfailed {M : Type 0} (made : Made M) : Type 0 where
  pub trace : put_failures made.trace ≡ 0
  pub report : failures_of made.report ≡ 0
  pub page : failures_of made.page ≡ 0

-- the trace of all rows was written, the report on them and their page
pub record WritesAll {M : Type 0} (contents : M → Option (List ℕ)) (s : Setup) (name release : List ℕ) (gave : List (List ℕ)) (told : List ℕ) (old new : Made M) : Type 0 where
  pub rows : List Row
  pub driven : DrivesTo s gave told rows
  pub trace : AppendsTrace contents s rows old new
  pub report : AppendsAsked contents (report_text s rows) old.report new.report
  pub page : WritesPageAsked contents name release s rows old.page new.page

-- the trace of the rows up to where the drive came was written, and nothing else
pub record WritesUpTo {M : Type 0} (Came : List Row → Type 0) (contents : M → Option (List ℕ)) (s : Setup) (old new : Made M) : Type 0 where
  pub rows : List Row
  pub came : Came rows
  pub trace : AppendsTrace contents s rows old new
  pub same : KeepsBoth old new

-- a beginning of the trace was written and nothing else; or the trace and a beginning of the report; or both, and of the page nothing
-- or a beginning
pub record WritesPart {M : Type 0} (contents : M → Option (List ℕ)) (s : Setup) (name release : List ℕ) (gave : List (List ℕ)) (told : List ℕ) (old new : Made M) : Type 0 where
  pub rows : List Row
  pub written : ((BeginsDrive s rows ⊎ DrivesTo s gave told rows) × BeginsTraceIn contents s rows old new × KeepsBoth old new)
      ⊎ ((DrivesTo s gave told rows × AppendsTrace contents s rows old new × AppendsBeginningAsked contents (report_text s rows) old.report new.report
      × (new.page ≡ old.page))
      ⊎ (DrivesTo s gave told rows × AppendsTrace contents s rows old new × AppendsAsked contents (report_text s rows) old.report new.report
      × BeginsPageIn contents name release s rows old.page new.page))

-- what a trace has got where the drive ended by an error
abbrev pub LeavesTraceBy : Setup → List (List ℕ) → List ℕ → Option (List ℕ) → Option (List ℕ) → DriveError → Type 0
LeavesTraceBy s gave told old new (error.Stopped place stop event) = (rows : List Row) × StopsAt s place stop event.items gave told rows × Appends old new (trace_text s rows)
LeavesTraceBy s gave told old new error.Closed = (rows : List Row) × ComesUntold s gave rows × Appends old new (trace_text s rows)
LeavesTraceBy s gave told old new (error.Fault cause) =
    (rows : List Row) × (BeginsDrive s rows ⊎ DrivesTo s gave told rows) × AppendsBeginning old new (trace_text s rows)

-- the report on these rows and their page were written
abbrev pub WritesRest : {M : Type 0} → (M → Option (List ℕ)) → Setup → List ℕ → List ℕ → List Row → Made M → Made M → Type 0
WritesRest contents s name release rows old new =
    AppendsAsked contents (report_text s rows) old.report new.report × WritesPageAsked contents name release s rows old.page new.page

-- what they have got where a fault came in them
abbrev pub WritesRestPart : {M : Type 0} → (M → Option (List ℕ)) → Setup → List ℕ → List ℕ → List Row → Made M → Made M → DriveError → Type 0
WritesRestPart contents s name release rows old new (error.Fault cause) =
    (AppendsBeginningAsked contents (report_text s rows) old.report new.report × (new.page ≡ old.page))
    ⊎ (AppendsAsked contents (report_text s rows) old.report new.report × BeginsPageIn contents name release s rows old.page new.page)
WritesRestPart contents s name release rows old new _ = ⊥

-- what the sinks have got where the drive ended by an error
abbrev pub LeavesBy : {M : Type 0} → (M → Option (List ℕ)) → Setup → List ℕ → List ℕ → List (List ℕ) → List ℕ → Made M → Made M → DriveError → Type 0
LeavesBy contents s name release gave told old new (error.Stopped place stop event) = WritesUpTo (StopsAt s place stop event.items gave told) contents s old new
LeavesBy contents s name release gave told old new error.Closed = WritesUpTo (ComesUntold s gave) contents s old new
LeavesBy contents s name release gave told old new (error.Fault cause) = WritesPart contents s name release gave told old new
