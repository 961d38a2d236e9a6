-- What the files hold that a run was written to with its page.
use Rattle.std.proofs.Common.{◌≡◌, ◌≢◌, ◌∙◌, ◌⊎◌, ℕ, List, [], Option, Some, None, IfSome, ap, append-nil, sym, refl, inl, inr}
use Rattle.std.specs.Io.KnownBytes.{Appends, Keeps}
use Rattle.clap.specs.Words.{Text}
use Rattle.base.specs.declared.fault.Fault.{Fault}
use Rattle.base.specs.declared.fault.Fault.TheVariants as fault
use Rattle.scenario.specs.Setup.{Setup}
use Rattle.trace.specs.Sinks.{AppendsBeginning}
use Rattle.trace.specs.Text.{trace_text}
use Rattle.trace.proofs.Beginnings.{Appends-none}
use Rattle.reports.specs.Text.{report_text}
use Rattle.files.specs.Files.{HoldsNow, ClosesAs, KeepsOthers, KeepsAllOthers, KeepsAllButThree, DifferEach}
use Rattle.member_laws.specs.Runs.{CounterOverflows}
use Rattle.run_output.specs.Promise.{ReportOverflows}
use Rattle.page_runs.specs.Pages.{BeginsPage, BeginsRunAndPage, IsPageOf, WritesRunAndPage}
use Rattle.scenario_files.specs.Shelves.{Shelf, HoldsBeginning}
use Rattle.scenario_files.proofs.Closed.{always, closed_holds, if_both, if_known}
use Rattle.scenario_files.proofs.Pairs.{apart_too}
use Rattle.ticks.specs.declared.tick.Tick.{Tick}
use Rattle.run_command.specs.Outcomes.{BeginsReport, BreaksOffPaged, HoldsReport, KeepsAllRest, StoresPaged}

-- ---- what is stored, where each file holds what was appended whole to its writer

module _ (s : Setup) (time : Option Tick) (name release : List ℕ) (start end : Shelf) (trace : Text) (report : Option Text) (page : Text)
    (old new report_old report_new page_old page_new : Option (List ℕ))
    (trace_holds : (text : List ℕ) → Appends old new text → HoldsNow (start trace) (end trace) text)
    (report_holds : (text : List ℕ) → Appends report_old report_new text → HoldsReport start end report text)
    (page_holds : (text : List ℕ) → Appends page_old page_new text → HoldsNow (start page) (end page) text)
    (others : KeepsAllRest start end trace report page) where
  -- the run was done
  pub paged_stored : (count : ℕ) → WritesRunAndPage time name release s old new report_old report_new page_old page_new count
      → StoresPaged s time name release start end trace report page count
  paged_stored count writes = record {
    rows = writes.rows;
    run = writes.run;
    counted = writes.counted;
    traced = trace_holds (trace_text s writes.rows) writes.trace;
    reported = report_holds (report_text s writes.rows) writes.report;
    text = writes.page.0;
    is = writes.page.1;
    paged = page_holds writes.page.0 writes.page.2;
    others = others;
  }

  trace_begins : (text : List ℕ) → AppendsBeginning old new text → HoldsBeginning (start trace) (end trace) text
  trace_begins text begins = record { front = begins.front; rest = begins.rest; whole = begins.whole; written = trace_holds begins.front begins.appends }

  page_begins : (text : List ℕ) → AppendsBeginning page_old page_new text → HoldsBeginning (start page) (end page) text
  page_begins text begins = record { front = begins.front; rest = begins.rest; whole = begins.whole; written = page_holds begins.front begins.appends }

  report_begins : (text : List ℕ) → AppendsBeginning report_old report_new text → BeginsReport start end report text
  report_begins text begins = go report report_holds
    where
      go : (asked : Option Text) → ((t : List ℕ) → Appends report_old report_new t → HoldsReport start end asked t) → BeginsReport start end asked text
      go None holds = tt
      go (Some other) holds = record { front = begins.front; rest = begins.rest; whole = begins.whole; written = holds begins.front begins.appends }

  -- a whole report is a beginning of itself
  report_whole : (text : List ℕ) → HoldsReport start end report text → BeginsReport start end report text
  report_whole text holds = go report holds
    where
      go : (asked : Option Text) → HoldsReport start end asked text → BeginsReport start end asked text
      go None held = tt
      go (Some other) held = record { front = text; rest = []; whole = append-nil text; written = held }

  -- it broke off
  pub paged_begun : (EndsBy : Fault → Type 0) (cause : Fault) → EndsBy cause → BeginsRunAndPage time name release s old new report_old report_new page_old page_new
      → (cause ≡ fault.CounterOverflow → CounterOverflows s ⊎ ReportOverflows s) → BreaksOffPaged EndsBy s time name release start end trace report page cause
  paged_begun EndsBy cause may begins overflow = record { rows = begins.rows; run = begins.run; written = by begins.written; others = others; may = may; overflow = overflow }
    where
      traced : List ℕ
      traced = trace_text s begins.rows

      reported : List ℕ
      reported = report_text s begins.rows

      Stored : Type 0
      Stored = (HoldsBeginning (start trace) (end trace) traced × HoldsReport start end report [] × HoldsNow (start page) (end page) [])
          ⊎ ((HoldsNow (start trace) (end trace) traced × BeginsReport start end report reported × HoldsNow (start page) (end page) [])
          ⊎ (HoldsNow (start trace) (end trace) traced × HoldsReport start end report reported
          × ((text : List ℕ) × IsPageOf time name s begins.rows release text × HoldsBeginning (start page) (end page) text)))

      page_empty : Keeps page_old page_new → HoldsNow (start page) (end page) []
      page_empty kept = page_holds [] (Appends-none page_old page_new kept)

      in_page : Appends old new traced → Appends report_old report_new reported → BeginsPage time name release s begins.rows page_old page_new → Stored
      in_page whole told (inl kept) = inr (inl (trace_holds traced whole, report_whole reported (report_holds reported told), page_empty kept))
      in_page whole told (inr begun) = inr (inr (trace_holds traced whole, report_holds reported told, (begun.0, begun.1, page_begins begun.0 begun.2)))

      by : (AppendsBeginning old new traced × Keeps report_old report_new × Keeps page_old page_new)
          ⊎ ((Appends old new traced × AppendsBeginning report_old report_new reported × Keeps page_old page_new)
          ⊎ (Appends old new traced × Appends report_old report_new reported × BeginsPage time name release s begins.rows page_old page_new)) → Stored
      by (inl part) = inl (trace_begins traced part.0, report_holds [] (Appends-none report_old report_new part.1), page_empty part.2)
      by (inr (inl part)) = inr (inl (trace_holds traced part.0, report_begins reported part.1, page_empty part.2))
      by (inr (inr part)) = in_page part.0 part.1 part.2

-- ---- which names differ

-- ---- two files that were made at once, and closed one after the other

module _ (start made between end : Shelf) (trace page : Text) (apart : IfSome (start trace) (λ _. page ≢ trace))
    (both_made : KeepsAllOthers start made trace page) (trace_closed : KeepsOthers made between trace) (page_closed : KeepsOthers between end page) where
  pub two_others : KeepsAllRest start end trace None page
  two_others other differs _ far = page_closed other far ∙ (trace_closed other differs ∙ both_made other differs far)

  -- what each holds of a text
  pub first_of_two : (old new : Option (List ℕ)) → HoldsNow (start trace) (made trace) [] → IfSome (start trace) (λ _. old ≡ Some [])
      → ClosesAs (made trace) (between trace) new → (text : List ℕ) → Appends old new text → HoldsNow (start trace) (end trace) text
  first_of_two old new empty fresh closes text written =
      closed_holds (start trace) (made trace) (made trace) (between trace) (end trace) old new text empty fresh (always (start trace) refl)
      (if_known (start trace) apart (λ differs. page_closed trace (λ e. differs (sym e)))) closes written

  pub second_of_two : (old new : Option (List ℕ)) → HoldsNow (start page) (made page) [] → IfSome (start page) (λ _. old ≡ Some [])
      → ClosesAs (between page) (end page) new → (text : List ℕ) → Appends old new text → HoldsNow (start page) (end page) text
  second_of_two old new empty fresh closes text written =
      closed_holds (start page) (made page) (between page) (end page) (end page) old new text empty fresh
      (if_known (start page) (apart_too start trace page apart) (λ differs. trace_closed page differs)) (always (start page) refl) closes written

-- ---- three files

module _ (start made one two end : Shelf) (trace report page : Text) (differ : DifferEach start trace report page)
    (all_made : KeepsAllButThree start made trace report page) (trace_closed : KeepsOthers made one trace) (report_closed : KeepsOthers one two report)
    (page_closed : KeepsOthers two end page) where
  pub three_others : KeepsAllRest start end trace (Some report) page
  three_others other differs differs_too far =
      let apart : other ≢ report = λ e. differs_too (ap Some (sym e)) in
      page_closed other far ∙ (report_closed other apart ∙ (trace_closed other differs ∙ all_made other differs apart far))

  pub first_of_three : (old new : Option (List ℕ)) → HoldsNow (start trace) (made trace) [] → IfSome (start trace) (λ _. old ≡ Some [])
      → ClosesAs (made trace) (one trace) new → (text : List ℕ) → Appends old new text → HoldsNow (start trace) (end trace) text
  first_of_three old new empty fresh closes text written =
      closed_holds (start trace) (made trace) (made trace) (one trace) (end trace) old new text empty fresh (always (start trace) refl)
      (if_both (start trace) differ.second_from_first differ.third_from_first
      (λ report_far page_far. page_closed trace (λ e. page_far (sym e)) ∙ report_closed trace (λ e. report_far (sym e)))) closes written

  pub second_of_three : (old new : Option (List ℕ)) → HoldsNow (start report) (made report) [] → IfSome (start report) (λ _. old ≡ Some [])
      → ClosesAs (one report) (two report) new → (text : List ℕ) → Appends old new text → HoldsNow (start report) (end report) text
  second_of_three old new empty fresh closes text written =
      closed_holds (start report) (made report) (one report) (two report) (end report) old new text empty fresh
      (if_known (start report) (apart_too start trace report differ.second_from_first) (λ far. trace_closed report far))
      (if_known (start report) differ.third_from_second (λ far. page_closed report (λ e. far (sym e)))) closes written

  pub third_of_three : (old new : Option (List ℕ)) → HoldsNow (start page) (made page) [] → IfSome (start page) (λ _. old ≡ Some [])
      → ClosesAs (two page) (end page) new → (text : List ℕ) → Appends old new text → HoldsNow (start page) (end page) text
  third_of_three old new empty fresh closes text written =
      closed_holds (start page) (made page) (two page) (end page) (end page) old new text empty fresh
      (if_both (start page) (apart_too start trace page differ.third_from_first) (apart_too start report page differ.third_from_second)
      (λ trace_far report_far. report_closed page report_far ∙ trace_closed page trace_far)) (always (start page) refl) closes written
