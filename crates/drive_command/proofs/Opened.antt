-- What is known of the files of a drive once they are made.
use Rattle.std.proofs.Common.{◌≡◌, ◌≢◌, ℕ, List, [], Option, Some, None, IfSome, ap, subst, sym}
use Rattle.clap.specs.Words.{Text}
use Rattle.trace.specs.declared.sink.Put.{Put}
use Rattle.trace.specs.Writers.{put_failures, writer_under}
use Rattle.files.specs.Files.{DifferEach, HoldsNow, KeepsAllButThree, KeepsAllOthers, KeepsOthers, KnownFile}
use Rattle.scenario_files.specs.Shelves.{Shelf}
use Rattle.drive_command.specs.declared.making.Made.{Made}
use Rattle.drive_command.specs.Making.{AreMade, IsFresh}
use Rattle.drive_command.proofs.Differing.{differ_alone, differ_both, differ_page, differ_report}

-- a sink over a writer of an empty file
pub fresh : {M : Type 0} (contents : M → Option (List ℕ)) (old new : KnownFile) (writer : M) (put : Put M) → HoldsNow old new []
    → IfSome old (λ _. contents writer ≡ Some []) → writer_under put ≡ writer → put_failures put ≡ 0 → IsFresh contents old new put
fresh contents old new writer put empty made is unfailed =
    record { empty = empty; made = subst (λ w. IfSome old (λ _. contents w ≡ Some [])) (sym is) made; unfailed = unfailed }

module _ {M : Type 0} (contents : M → Option (List ℕ)) (before after : Shelf) (trace : Text) (first : Put M) (of_trace : IsFresh contents (before trace) (after trace) first) where
  pub made_alone : KeepsOthers before after trace → AreMade contents before after trace None None (record { trace = first; report = None; page = None })
  made_alone kept = record {
    trace_made = of_trace;
    report_made = tt;
    page_made = tt;
    differ = differ_alone before trace;
    others = λ other far _ _. kept other far;
  }

  pub made_with_report : (report : Text) (second : Put M) → IsFresh contents (before report) (after report) second → IfSome (before trace) (λ _. report ≢ trace)
      → KeepsAllOthers before after trace report → AreMade contents before after trace (Some report) None (record { trace = first; report = Some second; page = None })
  made_with_report report second of_report apart kept = record {
    trace_made = of_trace;
    report_made = of_report;
    page_made = tt;
    differ = differ_report before trace report apart;
    others = λ other far report_far _. kept other far (λ e. report_far (ap Some (sym e)));
  }

  pub made_with_page : (page : Text) (second : Put M) → IsFresh contents (before page) (after page) second → IfSome (before trace) (λ _. page ≢ trace)
      → KeepsAllOthers before after trace page → AreMade contents before after trace None (Some page) (record { trace = first; report = None; page = Some second })
  made_with_page page second of_page apart kept = record {
    trace_made = of_trace;
    report_made = tt;
    page_made = of_page;
    differ = differ_page before trace page apart;
    others = λ other far _ page_far. kept other far (λ e. page_far (ap Some (sym e)));
  }

  pub made_three : (report page : Text) (second third : Put M) → IsFresh contents (before report) (after report) second → IsFresh contents (before page) (after page) third
      → DifferEach before trace report page → KeepsAllButThree before after trace report page
      → AreMade contents before after trace (Some report) (Some page) (record { trace = first; report = Some second; page = Some third })
  made_three report page second third of_report of_page differ kept = record {
    trace_made = of_trace;
    report_made = of_report;
    page_made = of_page;
    differ = differ_both before trace report page differ;
    others = λ other far report_far page_far. kept other far (λ e. report_far (ap Some (sym e))) (λ e. page_far (ap Some (sym e)));
  }
