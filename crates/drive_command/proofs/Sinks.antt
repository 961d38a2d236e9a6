-- What a drive leaves in its sinks.
use Rattle.std.proofs.Common.{◌≡◌, ◌⊎◌, ◌+◌, ◌<◌, ◌∙◌, ℕ, List, Option, Some, None, Result, Ok, Err, OnOk, OnErr, IfOk, IfErr, ap, arith, subst, sym, refl, inl, inr}
use Rattle.std.specs.Io.KnownBytes.{Appends, Keeps}
use Rattle.base.specs.declared.fault.Fault.{Fault}
use Rattle.base.specs.declared.fault.Fault.TheVariants as fault
use Rattle.scenario.specs.Setup.{Setup}
use Rattle.trace.specs.declared.row.Row.{Row}
use Rattle.trace.specs.declared.sink.Put.{Put}
use Rattle.trace.specs.Text.{trace_text}
use Rattle.trace.specs.Writers.{put_failures, writer_under}
use Rattle.trace.proofs.Beginnings.{beginning-kept, beginning-whole}
use Rattle.reports.specs.Text.{report_text}
use Rattle.drive_world.specs.Drives.{DrivesTo}
use Rattle.drive_world.specs.Ends.{EndsEarly, drive_failures}
use Rattle.drive_world.specs.declared.ends.DriveError.{DriveError}
use Rattle.drive_world.specs.declared.ends.DriveError.TheVariants as error
use Rattle.drive_command.specs.declared.making.Made.{Made}
use Rattle.drive_command.specs.Playing.{AppendsTrace, LeavesBy, LeavesTraceBy, WritesAll, WritesPart, WritesRest, WritesRestPart}

-- ---- the trace

-- what an early end leaves of it
pub early_trace : (s : Setup) (e : DriveError) (gave : List (List ℕ)) (told : List ℕ) (old new : Option (List ℕ)) → EndsEarly s e gave told old new
    → LeavesTraceBy s gave told old new e
early_trace s (error.Stopped place stop event) gave told old new ends = ends
early_trace s error.Closed gave told old new ends = (ends.0, (ends.1, ends.2), ends.3)
early_trace s (error.Fault cause) gave told old new ends = (ends.0, inl ends.1, ends.2)

pub all_early : {T : Type 0} (s : Setup) (result : Result T DriveError) (gave : List (List ℕ)) (told : List ℕ) (old new : Option (List ℕ))
    → IfErr result (λ e. EndsEarly s e gave told old new) → IfErr result (LeavesTraceBy s gave told old new)
all_early s (Ok x) gave told old new ends = tt
all_early s (Err e) gave told old new ends = early_trace s e gave told old new ends

-- and a flush that failed
pub unflushed : (s : Setup) (cause : Fault) (rows : List Row) (gave : List (List ℕ)) (told : List ℕ) (old between new : Option (List ℕ))
    → DrivesTo s gave told rows → Appends old between (trace_text s rows) → Keeps between new → LeavesTraceBy s gave told old new (error.Fault cause)
unflushed s cause rows gave told old between new driven appends kept =
    (rows, inr driven, beginning-kept old between new (trace_text s rows) (beginning-whole old between (trace_text s rows) appends) kept)

-- ---- all three

module _ {M : Type 0} (contents : M → Option (List ℕ)) (s : Setup) (name release : List ℕ) (gave : List (List ℕ)) (told : List ℕ) (old new : Made M) where
  -- nothing but the trace was written
  pub left_by : (e : DriveError) → new.report ≡ old.report → new.page ≡ old.page
      → LeavesTraceBy s gave told (contents (writer_under old.trace)) (contents (writer_under new.trace)) e → LeavesBy contents s name release gave told old new e
  left_by (error.Stopped place stop event) report page leaves = record { rows = leaves.0; came = leaves.1; trace = leaves.2; same = (report, page) }
  left_by error.Closed report page leaves = record { rows = leaves.0; came = leaves.1; trace = leaves.2; same = (report, page) }
  left_by (error.Fault cause) report page leaves = record { rows = leaves.0; written = inl (leaves.1, leaves.2, (report, page)) }

  -- the report and the page were written behind it
  module _ (rows : List Row) (driven : DrivesTo s gave told rows) (traced : AppendsTrace contents s rows old new) where
    pub wrote_all : {T E : Type 0} (result : Result T E) → OnOk result (WritesRest contents s name release rows old new)
        → OnOk result (WritesAll contents s name release gave told old new)
    wrote_all (Ok x) rest = record { rows = rows; driven = driven; trace = traced; report = rest.0; page = rest.1 }
    wrote_all (Err e) rest = tt

    pub wrote_part : (e : DriveError) → WritesRestPart contents s name release rows old new e → LeavesBy contents s name release gave told old new e
    wrote_part (error.Stopped place stop event) part = absurd part
    wrote_part error.Closed part = absurd part
    wrote_part (error.Fault cause) (inl part) = record { rows = rows; written = inr (inl (driven, traced, part.0, part.1)) }
    wrote_part (error.Fault cause) (inr part) = record { rows = rows; written = inr (inr (driven, traced, part.0, part.1)) }

    pub all_wrote_part : {T : Type 0} (Refused : Type 0) (result : Result T DriveError) → IfErr result (WritesRestPart contents s name release rows old new)
        → IfErr result (λ e. e ≡ error.Fault fault.Write → Refused)
        → IfErr result (λ e. LeavesBy contents s name release gave told old new e × (e ≡ error.Fault fault.Write → Refused))
    all_wrote_part Refused (Ok x) part refused = tt
    all_wrote_part Refused (Err e) part refused = (wrote_part e part, refused)

-- a failed write is counted
pub grown_by : {T : Type 0} (result : Result T DriveError) (e : DriveError) (count report page : ℕ) → result ≡ Err e → count ≡ drive_failures result
    → e ≡ error.Fault fault.Write → 0 < count + report + page
grown_by result e count report page is counted write =
    let one : count ≡ 1 = counted ∙ ap drive_failures (is ∙ ap Err write) in
    omega (arith, one)
