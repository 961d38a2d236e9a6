-- What the files hold that a run was written to.
use Rattle.std.proofs.Common.{◌≡◌, ◌≢◌, ◌∙◌, ◌⊎◌, ℕ, List, [], Option, Some, None, IfSome, ap, sym, inl, inr}
use Rattle.std.specs.Io.KnownBytes.{Appends, Keeps}
use Rattle.clap.specs.Words.{Text}
use Rattle.trace.specs.Sinks.{AppendsBeginning}
use Rattle.trace.proofs.Beginnings.{Appends-none}
use Rattle.files.specs.Files.{HoldsNow, ClosesAs, KeepsOthers, KeepsAllOthers}
use Rattle.base.specs.declared.fault.Fault.{Fault}
use Rattle.base.specs.declared.fault.Fault.TheVariants as fault
use Rattle.scenario.specs.Setup.{Setup}
use Rattle.trace.specs.Text.{trace_text}
use Rattle.reports.specs.Text.{report_text}
use Rattle.member_laws.specs.Runs.{CounterOverflows}
use Rattle.run_output.specs.Promise.{WritesRun, WritesBeginning, ReportOverflows}
use Rattle.scenario_files.specs.Shelves.{Shelf, HoldsBeginning}
use Rattle.scenario_files.proofs.Held.{holds_beginning, holds_text}
use Rattle.scenario_files.proofs.Pairs.{first_begins, first_holds, second_begins, second_holds}
use Rattle.run_command.specs.Outcomes.{HoldsReport, BeginsReport, KeepsRest, StoresRun, BreaksOff}

-- the file of a trace alone, after a run that was done, and after one that broke off
module _ (s : Setup) (start made end : Shelf) (trace : Text) (old new report_old report_new : Option (List ℕ))
    (trace_made : KeepsOthers start made trace) (trace_closed : KeepsOthers made end trace)
    (empty : HoldsNow (start trace) (made trace) []) (fresh : IfSome (start trace) (λ _. old ≡ Some []))
    (closed : ClosesAs (made trace) (end trace) new) where
  rest_kept : KeepsRest start end trace None
  rest_kept other differs _ = trace_closed other differs ∙ trace_made other differs

  pub trace_stored : (count : ℕ) → WritesRun s old new report_old report_new count → StoresRun s start end trace None count
  trace_stored count writes = record {
    rows = writes.rows;
    run = writes.run;
    counted = writes.counted;
    traced = holds_text (start trace) (made trace) (end trace) old new (trace_text s writes.rows) empty fresh writes.trace closed;
    reported = tt;
    others = rest_kept;
  }

  pub trace_begun : (EndsBy : Fault → Type 0) (cause : Fault) → EndsBy cause → WritesBeginning s old new report_old report_new → (cause ≡ fault.CounterOverflow → CounterOverflows s ⊎ ReportOverflows s)
      → BreaksOff EndsBy s start end trace None cause
  trace_begun EndsBy cause may begins overflow = record {
    rows = begins.rows;
    run = begins.run;
    written = go begins.written;
    others = rest_kept;
    may = may;
    overflow = overflow;
  }
    where
      text : List ℕ
      text = trace_text s begins.rows

      go : (AppendsBeginning old new text × Keeps report_old report_new) ⊎ (Appends old new text × AppendsBeginning report_old report_new (report_text s begins.rows))
          → (HoldsBeginning (start trace) (end trace) text × HoldsReport start end None []) ⊎ (HoldsNow (start trace) (end trace) text × BeginsReport start end None (report_text s begins.rows))
      go (inl written) = inl (holds_beginning (start trace) (made trace) (end trace) old new text empty fresh written.0 closed, tt)
      go (inr written) = inr (holds_text (start trace) (made trace) (end trace) old new text empty fresh written.0 closed, tt)

-- two files that were made at once, of which the one was closed before the other
module _ (start made between end : Shelf) (trace report : Text) (apart : IfSome (start trace) (λ _. report ≢ trace))
    (both_made : KeepsAllOthers start made trace report) (trace_closed : KeepsOthers made between trace) (report_closed : KeepsOthers between end report) where
  -- no other file has changed
  pub others_kept : KeepsRest start end trace (Some report)
  others_kept other differs differs_too =
      let far : other ≢ report = λ e. differs_too (ap Some (sym e)) in
      report_closed other far ∙ (trace_closed other differs ∙ both_made other differs far)

  -- what they hold of two texts that were written whole
  pub both_hold : (told report_told : List ℕ) (old new report_old report_new : Option (List ℕ))
      → HoldsNow (start trace) (made trace) [] → IfSome (start trace) (λ _. old ≡ Some [])
      → HoldsNow (start report) (made report) [] → IfSome (start report) (λ _. report_old ≡ Some [])
      → ClosesAs (made trace) (between trace) new → ClosesAs (between report) (end report) report_new
      → Appends old new told → Appends report_old report_new report_told
      → HoldsNow (start trace) (end trace) told × HoldsReport start end (Some report) report_told
  both_hold told report_told old new report_old report_new empty fresh report_empty report_fresh closed report_ends whole report_whole = (
    first_holds trace report start made between end apart both_made trace_closed report_closed old new empty fresh closed told whole,
    second_holds trace report start made between end apart both_made trace_closed report_closed report_old report_new report_empty report_fresh report_ends report_told report_whole,
  )

  -- what they hold of two texts that were not written whole
  pub both_begin : (told report_told : List ℕ) (old new report_old report_new : Option (List ℕ))
      → HoldsNow (start trace) (made trace) [] → IfSome (start trace) (λ _. old ≡ Some [])
      → HoldsNow (start report) (made report) [] → IfSome (start report) (λ _. report_old ≡ Some [])
      → ClosesAs (made trace) (between trace) new → ClosesAs (between report) (end report) report_new
      → (AppendsBeginning old new told × Keeps report_old report_new) ⊎ (Appends old new told × AppendsBeginning report_old report_new report_told)
      → (HoldsBeginning (start trace) (end trace) told × HoldsReport start end (Some report) [])
      ⊎ (HoldsNow (start trace) (end trace) told × BeginsReport start end (Some report) report_told)
  both_begin told report_told old new report_old report_new empty fresh report_empty report_fresh closed report_ends (inl written) = inl (
    first_begins trace report start made between end apart both_made trace_closed report_closed old new empty fresh closed told written.0,
    second_holds trace report start made between end apart both_made trace_closed report_closed report_old report_new report_empty report_fresh report_ends [] (Appends-none report_old report_new written.1),
  )
  both_begin told report_told old new report_old report_new empty fresh report_empty report_fresh closed report_ends (inr written) = inr (
    first_holds trace report start made between end apart both_made trace_closed report_closed old new empty fresh closed told written.0,
    second_begins trace report start made between end apart both_made trace_closed report_closed report_old report_new report_empty report_fresh report_ends report_told written.1,
  )

  -- the run was done
  pub both_stored : (s : Setup) (count : ℕ) (old new report_old report_new : Option (List ℕ))
      → HoldsNow (start trace) (made trace) [] → IfSome (start trace) (λ _. old ≡ Some [])
      → HoldsNow (start report) (made report) [] → IfSome (start report) (λ _. report_old ≡ Some [])
      → ClosesAs (made trace) (between trace) new → ClosesAs (between report) (end report) report_new
      → WritesRun s old new report_old report_new count → StoresRun s start end trace (Some report) count
  both_stored s count old new report_old report_new empty fresh report_empty report_fresh closed report_ends writes =
      let holds = both_hold (trace_text s writes.rows) (report_text s writes.rows) old new report_old report_new empty fresh report_empty report_fresh
      closed report_ends writes.trace writes.report in
      record {
        rows = writes.rows;
        run = writes.run;
        counted = writes.counted;
        traced = holds.0;
        reported = holds.1;
        others = others_kept;
      }

  -- it broke off
  pub both_begun : (EndsBy : Fault → Type 0) (s : Setup) (cause : Fault) (old new report_old report_new : Option (List ℕ))
      → HoldsNow (start trace) (made trace) [] → IfSome (start trace) (λ _. old ≡ Some [])
      → HoldsNow (start report) (made report) [] → IfSome (start report) (λ _. report_old ≡ Some [])
      → ClosesAs (made trace) (between trace) new → ClosesAs (between report) (end report) report_new
      → EndsBy cause → WritesBeginning s old new report_old report_new → (cause ≡ fault.CounterOverflow → CounterOverflows s ⊎ ReportOverflows s)
      → BreaksOff EndsBy s start end trace (Some report) cause
  both_begun EndsBy s cause old new report_old report_new empty fresh report_empty report_fresh closed report_ends may begins overflow = record {
    rows = begins.rows;
    run = begins.run;
    written = both_begin (trace_text s begins.rows) (report_text s begins.rows) old new report_old report_new empty fresh report_empty report_fresh
        closed report_ends begins.written;
    others = others_kept;
    may = may;
    overflow = overflow;
  }
