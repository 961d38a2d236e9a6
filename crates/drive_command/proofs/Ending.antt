-- What the files hold of a drive that was done, and of one that wasn't.
use Rattle.std.proofs.Common.{◌≡◌, ◌⊎◌, ◌∙◌, ◌++◌, ℕ, List, [], Option, ap, append-nil, subst, sym, refl, inl, inr}
use Rattle.base.specs.declared.fault.Fault.{Fault}
use Rattle.base.specs.declared.fault.Fault.TheVariants as fault
use Rattle.scenario.specs.Setup.{Setup}
use Rattle.trace.specs.declared.row.Row.{Row}
use Rattle.trace.specs.Text.{trace_text}
use Rattle.reports.specs.Text.{report_text}
use Rattle.std.specs.Io.KnownBytes.{Appends}
use Rattle.trace.specs.Writers.{writer_under}
use Rattle.files.specs.Files.{HoldsNow, Making}
use Rattle.command_line.specs.declared.answers.DriveStop.{DriveStop}
use Rattle.command_line.specs.declared.answers.DriveStop.TheVariants as stopped
use Rattle.command_line.specs.declared.driving.DriveWords.{DriveWords}
use Rattle.command_line.specs.declared.failure.Failure.{Failure}
use Rattle.command_line.specs.declared.failure.Failure.TheVariants.{Run, Drive}
use Rattle.scenario_files.specs.Shelves.{HoldsBeginning, Shelf, word_given}
use Rattle.drive_events.specs.Line.{end_line}
use Rattle.std.specs.Prelude.{string_bytes}
use Rattle.drive_world.specs.Drives.{BeginsDrive, DrivesTo, DrivesUpTo, StopsAt}
use Rattle.drive_world.specs.declared.ends.DriveError.{DriveError}
use Rattle.drive_world.specs.declared.ends.DriveError.TheVariants as error
use Rattle.drive_world.specs.declared.ends.Stop.{Stop}
use Rattle.drive_command.specs.declared.making.Made.{Made}
use Rattle.drive_command.specs.Ends.{IsToldBy, TellsAnswer}
use Rattle.drive_command.specs.Making.{AreMade, ClosesAll}
use Rattle.drive_command.specs.Outcomes.{AreApart, BeginsAsked, BeginsPageAsked, BreaksOff, ComesUntold, DriveEnds, DrivesScenario, HoldsAsked, KeepsRest, LeavesRows, LosesHarness, StopsDrive, StoresDrive}
use Rattle.drive_command.specs.Playing.{AppendsAsked, AppendsBeginningAsked, AppendsTrace, BeginsPageIn, BeginsTraceIn, KeepsBoth, LeavesBy, WritesAll, WritesPart, WritesUpTo}
use Rattle.drive_command.proofs.Closing.{Holds, begins_asked, empty_asked, page_asked, page_begins, page_holds, report_holds, rest_kept, trace_begins, trace_holds}

-- up to an event, the run is a beginning of it
begins_drive : (s : Setup) (came_in : List (List ℕ)) (told : List ℕ) (rows : List Row) → DrivesUpTo s came_in told rows → BeginsDrive s rows
begins_drive s came_in told rows up = record { least_delay = up.least_delay; least = up.least; course = up.course; is = up.is; key = up.key; run = up.run }

module _ {M : Type 0} (contents : M → Option (List ℕ)) (s : Setup) (release : List ℕ) (start made end : Shelf) (making : Making) (drive : DriveWords)
    (first last : Made M) (gave : List (List ℕ)) (told : List ℕ)
    (makes : AreMade contents start made drive.trace.now (word_given drive.report) (word_given drive.page) first)
    (closes : ClosesAll contents made end drive.trace.now (word_given drive.report) (word_given drive.page) last) where
  trace_now : (text : List ℕ) → Appends (contents (writer_under first.trace)) (contents (writer_under last.trace)) text → HoldsNow (start drive.trace.now) (end drive.trace.now) text
  trace_now = trace_holds contents start made end drive.trace.now (word_given drive.report) (word_given drive.page) first last makes closes

  report_now : Holds contents start end (word_given drive.report) first.report last.report
  report_now = report_holds contents start made end drive.trace.now (word_given drive.report) (word_given drive.page) first last makes closes

  page_now : Holds contents start end (word_given drive.page) first.page last.page
  page_now = page_holds contents start made end drive.trace.now (word_given drive.report) (word_given drive.page) first last makes closes

  others_now : KeepsRest start end drive.trace.now (word_given drive.report) (word_given drive.page)
  others_now = rest_kept contents start made end drive.trace.now (word_given drive.report) (word_given drive.page) first last makes closes

  pub drive_stored : WritesAll contents s drive.file.now release gave told first last → StoresDrive s release start end drive gave told
  drive_stored writes = record {
    rows = writes.rows;
    driven = writes.driven;
    traced = trace_now (trace_text s writes.rows) writes.trace;
    reported = report_now (report_text s writes.rows) writes.report;
    paged = page_asked contents start end made drive.file.now release s writes.rows (word_given drive.page) first.page last.page page_now makes.page_made writes.page;
    others = others_now;
  }

  rows_left : (Came : List Row → Type 0) → WritesUpTo Came contents s first last → LeavesRows Came s start end drive
  rows_left Came writes = record {
    rows = writes.rows;
    came = writes.came;
    traced = trace_now (trace_text s writes.rows) writes.trace;
    reported = empty_asked contents start end (word_given drive.report) first.report last.report report_now writes.same.0;
    paged = empty_asked contents start end (word_given drive.page) first.page last.page page_now writes.same.1;
    others = others_now;
  }

  -- a drive that was stopped has left a beginning, too
  stop_breaks : (place : ℕ) (why : Stop) (event : List ℕ) → LeavesRows (StopsAt s place why event gave told) s start end drive → BreaksOff s release start end drive gave told
  stop_breaks place why event stops = record {
    rows = stops.rows;
    written = inl (
      inl (begins_drive s gave told stops.rows stops.came.up_to),
      record { front = trace_text s stops.rows; rest = []; whole = append-nil (trace_text s stops.rows); written = stops.traced },
      stops.reported,
      stops.paged,
    );
    others = stops.others;
  }

  breaks : WritesPart contents s drive.file.now release gave told first last → BreaksOff s release start end drive gave told
  breaks writes = record { rows = writes.rows; written = by writes.written; others = others_now }
    where
      trace_text_now : List ℕ
      trace_text_now = trace_text s writes.rows

      report_text_now : List ℕ
      report_text_now = report_text s writes.rows

      by : ((BeginsDrive s writes.rows ⊎ DrivesTo s gave told writes.rows) × BeginsTraceIn contents s writes.rows first last × KeepsBoth first last)
          ⊎ ((DrivesTo s gave told writes.rows × AppendsTrace contents s writes.rows first last × AppendsBeginningAsked contents report_text_now first.report last.report
          × (last.page ≡ first.page))
          ⊎ (DrivesTo s gave told writes.rows × AppendsTrace contents s writes.rows first last × AppendsAsked contents report_text_now first.report last.report
          × BeginsPageIn contents drive.file.now release s writes.rows first.page last.page))
          → ((BeginsDrive s writes.rows ⊎ DrivesTo s gave told writes.rows) × HoldsBeginning (start drive.trace.now) (end drive.trace.now) trace_text_now
          × HoldsAsked start end (word_given drive.report) [] × HoldsAsked start end (word_given drive.page) [])
          ⊎ ((DrivesTo s gave told writes.rows × HoldsNow (start drive.trace.now) (end drive.trace.now) trace_text_now
          × BeginsAsked start end (word_given drive.report) report_text_now × HoldsAsked start end (word_given drive.page) [])
          ⊎ (DrivesTo s gave told writes.rows × HoldsNow (start drive.trace.now) (end drive.trace.now) trace_text_now
          × HoldsAsked start end (word_given drive.report) report_text_now
          × BeginsPageAsked drive.file.now release s writes.rows start end (word_given drive.page)))
      by (inl (driven, begun, same)) = inl (
        driven,
        trace_begins contents start made end drive.trace.now (word_given drive.report) (word_given drive.page) first last makes closes (trace_text s writes.rows) begun,
        empty_asked contents start end (word_given drive.report) first.report last.report report_now same.0,
        empty_asked contents start end (word_given drive.page) first.page last.page page_now same.1,
      )
      by (inr (inl (driven, traced, begun, same))) = inr (inl (
        driven,
        trace_now (trace_text s writes.rows) traced,
        begins_asked contents start end (word_given drive.report) first.report last.report report_now (report_text s writes.rows) begun,
        empty_asked contents start end (word_given drive.page) first.page last.page page_now same,
      ))
      by (inr (inr (driven, traced, reported, begun))) = inr (inr (
        driven,
        trace_now (trace_text s writes.rows) traced,
        report_now (report_text s writes.rows) reported,
        page_begins contents start end made drive.file.now release s writes.rows (word_given drive.page) first.page last.page page_now makes.page_made begun,
      ))

  -- why it was not done
  module _ (Refused : Type 0) (apart : AreApart making drive) where
    abbrev Ends : Failure → Type 0
    Ends failure = DriveEnds Refused s release start end making drive gave told failure

    by_memory : (cause : Fault) → cause ≡ fault.Memory → cause ≡ fault.Write → Refused
    by_memory cause is other = absurd (let same : fault.Memory ≡ fault.Write = sym is ∙ other in cc same)

    by_answer : (place : ℕ) (why : Stop) (event : List ℕ) (it : DriveStop) → TellsAnswer place why event it → LeavesRows (StopsAt s place why event gave told) s start end drive → Ends (Drive it)
    by_answer place why event (stopped.Answer told_place cause text) tells stops = (
      apart,
      record {
        why = why;
        tells = tells.1;
        left =
            subst (λ (n : ℕ). LeavesRows (StopsAt s n why (string_bytes text) gave told) s start end drive) (sym tells.0)
            (subst (λ (l : List ℕ). LeavesRows (StopsAt s place why l gave told) s start end drive) (sym tells.2) stops);
      },
    )
    by_answer place why event stopped.Closed tells stops = absurd tells

    left : (e : DriveError) (failure : Failure) → IsToldBy e failure → LeavesBy contents s drive.file.now release gave told first last e
        → (e ≡ error.Fault fault.Write → Refused) → Ends failure
    left (error.Stopped place stop event) failure (inl tells) leaves refused =
        subst Ends (sym tells.1) (by_answer place stop event.items tells.0 tells.2 (rows_left (StopsAt s place stop event.items gave told) leaves))
    left (error.Stopped place stop event) failure (inr is) leaves refused =
        subst Ends (sym is) (apart, inl (stop_breaks place stop event.items (rows_left (StopsAt s place stop event.items gave told) leaves)), by_memory fault.Memory refl)
    left error.Closed failure is leaves refused = subst Ends (sym is) (apart, inl (rows_left (ComesUntold s gave) leaves))
    left (error.Fault cause) failure is leaves refused = subst Ends (sym is) (apart, inl (breaks leaves), λ write. refused (ap error.Fault write))

    pub drive_left : (gave_now : List (List ℕ)) (told_now : List ℕ) → gave_now ≡ gave → told_now ≡ told → (e : DriveError) (failure : Failure) → IsToldBy e failure
        → LeavesBy contents s drive.file.now release gave told first last e → (e ≡ error.Fault fault.Write → Refused)
        → DriveEnds Refused s release start end making drive gave_now told_now failure
    drive_left gave_now told_now same same_too e failure is leaves refused =
        subst (λ (lines : List (List ℕ)). DriveEnds Refused s release start end making drive lines told_now failure) (sym same)
        (subst (λ (bytes : List ℕ). DriveEnds Refused s release start end making drive gave bytes failure) (sym same_too) (left e failure is leaves refused))

    -- it was done, but the end couldn't be sent
    pub drive_untold : (gave_now : List (List ℕ)) (told_now : List ℕ) → gave_now ≡ gave → (failure : Failure)
        → (failure ≡ Drive stopped.Closed) ⊎ (failure ≡ Run fault.Memory) → WritesAll contents s drive.file.now release gave told first last
        → DriveEnds Refused s release start end making drive gave_now told_now failure
    drive_untold gave_now told_now same failure by writes =
        subst (λ (lines : List (List ℕ)). DriveEnds Refused s release start end making drive lines told_now failure) (sym same) (go by)
      where
        go : (failure ≡ Drive stopped.Closed) ⊎ (failure ≡ Run fault.Memory) → DriveEnds Refused s release start end making drive gave told_now failure
        go (inl is) = subst (DriveEnds Refused s release start end making drive gave told_now) (sym is) (apart, inr (told, drive_stored writes))
        go (inr is) = subst (DriveEnds Refused s release start end making drive gave told_now) (sym is) (apart, inr (told, drive_stored writes), by_memory fault.Memory refl)

  -- and it was done with its end
  pub drive_done : (gave_now : List (List ℕ)) (told_now : List ℕ) → gave_now ≡ gave → told_now ≡ told ++ end_line s → AreApart making drive
      → WritesAll contents s drive.file.now release gave told first last → DrivesScenario s release start end making drive gave_now told_now
  drive_done gave_now told_now same ended apart writes =
      subst (λ (lines : List (List ℕ)). DrivesScenario s release start end making drive lines told_now) (sym same)
      (record { apart = apart; lines = told; stored = drive_stored writes; ended = ended })
