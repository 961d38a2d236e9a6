-- What the files of a drive hold once they are closed.
use Rattle.std.proofs.Common.{◌≡◌, ◌≢◌, ◌∙◌, ◌⊎◌, ℕ, List, [], Option, Some, None, IfSome, ap, append-nil, sym, subst, refl, inl, inr}
use Rattle.std.specs.Io.KnownBytes.{Appends, Keeps}
use Rattle.clap.specs.Words.{Text}
use Rattle.trace.specs.declared.sink.Put.{Put}
use Rattle.trace.specs.Sinks.{AppendsBeginning}
use Rattle.trace.specs.Writers.{writer_under}
use Rattle.trace.proofs.Beginnings.{Appends-none, Keeps-same}
use Rattle.scenario.specs.Setup.{Setup}
use Rattle.trace.specs.declared.row.Row.{Row}
use Rattle.files.specs.Files.{KnownFile, HoldsNow, ClosesAs}
use Rattle.page_runs.specs.Pages.{IsPageOf, BeginsPage, WritesPage}
use Rattle.scenario_files.specs.Shelves.{Shelf, HoldsBeginning}
use Rattle.scenario_files.proofs.Closed.{always, closed_holds, if_both, if_known}
use Rattle.scenario_files.proofs.Pairs.{apart_too}
use Rattle.drive_command.specs.declared.making.Made.{Made}
use Rattle.drive_command.proofs.Differing.{none_differs, some_differs}
use Rattle.drive_command.specs.Making.{AreMade, ClosesAll, ClosesAsked, DifferAsked, IsFresh, IsFreshAsked}
use Rattle.drive_command.specs.Outcomes.{BeginsAsked, BeginsPageAsked, HoldsAsked, HoldsPage, KeepsRest}
use Rattle.drive_command.specs.Playing.{AppendsAsked, AppendsBeginningAsked, BeginsPageIn, WritesPageAsked}

-- ---- names

-- a name that is none of those that are closed
untouched : {M : Type 0} (contents : M → Option (List ℕ)) (old new : Shelf) (name : Option Text) (put : Option (Put M)) (other : Text)
    → ClosesAsked contents old new name put → name ≢ Some other → new other ≡ old other
untouched contents old new None put other closed differs = ap (λ (shelf : Shelf). shelf other) closed
untouched contents old new (Some name) None other closed differs = ap (λ (shelf : Shelf). shelf other) closed
untouched contents old new (Some name) (Some put) other closed differs = closed.1 other (λ e. differs (ap Some (sym e)))

-- of two names that are different where something is known of the one, the same where something is known of the other
turned : (start : Shelf) (first : Text) (second : Option Text) (name : Text) → second ≡ Some name → IfSome (start first) (λ _. second ≢ Some first)
    → IfSome (start name) (λ _. name ≢ first)
turned start first second name is apart =
    apart_too start first name (if_known (start first) apart (λ differs e. differs (is ∙ ap Some e)))

-- ---- one file that is asked for

module _ {M : Type 0} (contents : M → Option (List ℕ)) (start end : Shelf) where
  -- what it holds of each text that is appended
  abbrev pub Holds : Option Text → Option (Put M) → Option (Put M) → Type 0
  Holds name first last = (text : List ℕ) → AppendsAsked contents text first last → HoldsAsked start end name text

  pub begins_asked : (name : Option Text) (first last : Option (Put M)) → Holds name first last → (text : List ℕ) → AppendsBeginningAsked contents text first last
      → BeginsAsked start end name text
  begins_asked None first last holds text begins = tt
  begins_asked (Some name) None None holds text begins = record { front = text; rest = []; whole = append-nil text; written = holds text tt }
  begins_asked (Some name) None (Some last) holds text begins = absurd begins
  begins_asked (Some name) (Some first) None holds text begins = absurd begins
  begins_asked (Some name) (Some first) (Some last) holds text begins =
      record { front = begins.front; rest = begins.rest; whole = begins.whole; written = holds begins.front begins.appends }

  -- it is empty where nothing was appended
  pub empty_asked : (name : Option Text) (first last : Option (Put M)) → Holds name first last → last ≡ first → HoldsAsked start end name []
  empty_asked name None last holds same = holds [] (subst (AppendsAsked contents [] None) (sym same) tt)
  empty_asked name (Some put) last holds same =
      holds [] (subst (AppendsAsked contents [] (Some put)) (sym same) (Appends-none _ _ (Keeps-same (contents (writer_under put)))))

  -- and it has the page that was written, or a beginning of it
  module _ (made : Shelf) (file release : List ℕ) (s : Setup) (rows : List Row) where
    pub page_asked : (name : Option Text) (first last : Option (Put M)) → Holds name first last → IsFreshAsked contents start made name first
        → WritesPageAsked contents file release s rows first last → IfSome name (λ n. HoldsPage file release s rows (start n) (end n))
    page_asked None first last holds fresh writes = tt
    page_asked (Some name) None last holds fresh writes = absurd fresh
    page_asked (Some name) (Some first) None holds fresh writes = absurd writes
    page_asked (Some name) (Some first) (Some last) holds fresh writes = (writes.0, writes.1, holds writes.0 writes.2)

    pub page_begins : (name : Option Text) (first last : Option (Put M)) → Holds name first last → IsFreshAsked contents start made name first
        → BeginsPageIn contents file release s rows first last → BeginsPageAsked file release s rows start end name
    page_begins None first last holds fresh begins = tt
    page_begins (Some name) None last holds fresh begins = absurd fresh
    page_begins (Some name) (Some first) None holds fresh begins = absurd begins
    page_begins (Some name) (Some first) (Some last) holds fresh (inl kept) = inl (holds [] (Appends-none _ _ kept))
    page_begins (Some name) (Some first) (Some last) holds fresh (inr begun) =
        inr (begun.0, begun.1, record { front = begun.2.front; rest = begun.2.rest; whole = begun.2.whole; written = holds begun.2.front begun.2.appends })

-- ---- all files, between whose making and the end all were closed

module _ {M : Type 0} (contents : M → Option (List ℕ)) (start made end : Shelf) (trace : Text) (report page : Option Text) (first last : Made M)
    (makes : AreMade contents start made trace report page first) (closes : ClosesAll contents made end trace report page last) where
  pub trace_holds : (text : List ℕ) → Appends (contents (writer_under first.trace)) (contents (writer_under last.trace)) text → HoldsNow (start trace) (end trace) text
  trace_holds text written =
      closed_holds (start trace) (made trace) (made trace) (closes.one trace) (end trace) (contents (writer_under first.trace)) (contents (writer_under last.trace)) text
      makes.trace_made.empty makes.trace_made.made (always (start trace) refl)
      (if_both (start trace) makes.differ.report_from_trace makes.differ.page_from_trace (λ report_far page_far.
      untouched contents closes.two end page last.page trace closes.page_closed page_far
      ∙ untouched contents closes.one closes.two report last.report trace closes.report_closed report_far))
      closes.trace_closed written

  pub report_holds : Holds contents start end report first.report last.report
  report_holds text written = go report refl first.report makes.report_made last.report closes.report_closed written makes.differ.page_from_report
    where
      go : (name : Option Text) → report ≡ name → (old : Option (Put M)) → IsFreshAsked contents start made name old
          → (new : Option (Put M)) → ClosesAsked contents closes.one closes.two name new → AppendsAsked contents text old new
          → IfSome name (λ n. IfSome (start n) (λ _. page ≢ Some n)) → HoldsAsked start end name text
      go None is old fresh new closed appends far = tt
      go (Some name) is None fresh new closed appends far = absurd fresh
      go (Some name) is (Some old) fresh None closed appends far = absurd appends
      go (Some name) is (Some old) fresh (Some new) closed appends far =
          closed_holds (start name) (made name) (closes.one name) (closes.two name) (end name) (contents (writer_under old)) (contents (writer_under new)) text
          fresh.empty fresh.made
          (if_known (start name) (turned start trace report name is makes.differ.report_from_trace) (λ apart. closes.others name apart))
          (if_known (start name) far (λ page_far. untouched contents closes.two end page last.page name closes.page_closed page_far))
          closed.0 appends

  pub page_holds : Holds contents start end page first.page last.page
  page_holds text written = go page refl first.page makes.page_made last.page closes.page_closed written
    where
      report_far : (name : Text) → page ≡ Some name → IfSome (start name) (λ _. report ≢ Some name)
      report_far name is = by report makes.differ.page_from_report
        where
          by : (other : Option Text) → IfSome other (λ n. IfSome (start n) (λ _. page ≢ Some n)) → IfSome (start name) (λ _. other ≢ Some name)
          by None far = always (start name) (none_differs name)
          by (Some other) far = if_known (start name) (turned start other page name is far) (λ apart. some_differs other name (λ e. apart (sym e)))

      go : (name : Option Text) → page ≡ name → (old : Option (Put M)) → IsFreshAsked contents start made name old
          → (new : Option (Put M)) → ClosesAsked contents closes.two end name new → AppendsAsked contents text old new → HoldsAsked start end name text
      go None is old fresh new closed appends = tt
      go (Some name) is None fresh new closed appends = absurd fresh
      go (Some name) is (Some old) fresh None closed appends = absurd appends
      go (Some name) is (Some old) fresh (Some new) closed appends =
          closed_holds (start name) (made name) (closes.two name) (end name) (end name) (contents (writer_under old)) (contents (writer_under new)) text
          fresh.empty fresh.made
          (if_both (start name) (turned start trace page name is makes.differ.page_from_trace) (report_far name is) (λ trace_apart report_apart.
          untouched contents closes.one closes.two report last.report name closes.report_closed report_apart ∙ closes.others name trace_apart))
          (always (start name) refl)
          closed.0 appends

  pub rest_kept : KeepsRest start end trace report page
  rest_kept other from_trace from_report from_page =
      untouched contents closes.two end page last.page other closes.page_closed from_page
      ∙ (untouched contents closes.one closes.two report last.report other closes.report_closed from_report
      ∙ (closes.others other from_trace ∙ makes.others other from_trace from_report from_page))

  pub trace_begins : (text : List ℕ) → AppendsBeginning (contents (writer_under first.trace)) (contents (writer_under last.trace)) text
      → HoldsBeginning (start trace) (end trace) text
  trace_begins text begins =
      record { front = begins.front; rest = begins.rest; whole = begins.whole; written = trace_holds begins.front begins.appends }
