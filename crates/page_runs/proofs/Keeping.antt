-- What a run keeps that writes a page, by what it keeps of its trace and its report.
use Rattle.std.proofs.Common.{◌≡◌, ◌≢◌, ◌<◌, ◌⊎◌, ℕ, List, Option, Result, Ok, Err, length, subst, refl, inl, inr, arith}
use Rattle.std.specs.Result.{IfOk, IfErr, OnOk, OnErr, IsErrOf}
use Rattle.std.specs.Io.KnownBytes.{Appends, Keeps}
use Rattle.base.specs.declared.fault.Fault.{Fault}
use Rattle.base.specs.declared.fault.Fault.TheVariants.{Memory, Write}
use Rattle.base.proofs.Faults.{memory≢write}
use Rattle.scenario.specs.Setup.{Setup, IsSound}
use Rattle.trace.specs.Sinks.{AppendsBeginning}
use Rattle.trace.specs.Text.{trace_text}
use Rattle.trace.specs.declared.row.Row.{Row}
use Rattle.trace.proofs.Beginnings.{Keeps-same}
use Rattle.reports.specs.Text.{report_text}
use Rattle.member_laws.specs.Runs.{IsRunOf}
use Rattle.run_output.specs.declared.summary.Summary.{Summary}
use Rattle.run_output.specs.Promise.{KeepsPromise, summed}
use Rattle.run_output.proofs.Failing.{breaks_off}
use Rattle.run_output.proofs.Runs.{writes_nothing}
use Rattle.page_runs.specs.Pages.{BeginsPage, WritesPage}
use Rattle.page_runs.specs.Promise.{KeepsPagePromise}
use Rattle.page_runs.specs.Tallied.{TalliesRun, rows_tallied}
use Rattle.ticks.specs.declared.tick.Tick.{Tick}
use Rattle.page_runs.specs.declared.page_data.PageData.{PageData}

module _ {A B : Type 0} (held : A → Option (List ℕ)) (failed : A → ℕ) (held_report : B → Option (List ℕ)) (failed_report : B → ℕ) (s : Setup) where
  -- a run that was refused memory before it began
  pub unbegun : (trace : A) (report : B) → IsSound s → KeepsPromise held failed held_report failed_report s trace trace report report (summed (rows_tallied (Err Memory)))
  unbegun trace report sound =
      breaks_off held failed held_report failed_report s trace trace report report (Err Memory) Memory refl
      (writes_nothing s (held trace) (held_report report) sound) (λ _. refl) (λ is. absurd (memory≢write is)) (λ _. refl)

module _ {A B C : Type 0} (held : A → Option (List ℕ)) (failed : A → ℕ) (held_report : B → Option (List ℕ)) (failed_report : B → ℕ)
    (held_page : C → Option (List ℕ)) (failed_page : C → ℕ) (time : Option Tick) (name release : List ℕ) (s : Setup) (trace_old trace_new : A) (report_old report_new : B) where
  -- it broke off before its page
  pub unpaged : (page : C) (outcome : Result PageData Fault) (fault : Fault) → outcome ≡ Err fault
      → KeepsPromise held failed held_report failed_report s trace_old trace_new report_old report_new (summed (rows_tallied outcome))
      → KeepsPagePromise held failed held_report failed_report held_page failed_page time name release s trace_old trace_new report_old report_new page page (Err fault)
  unpaged page outcome fault is promise = record {
    written = tt;
    beginning = record { rows = kept.beginning.rows; run = kept.beginning.run; written = begun kept.beginning.written };
    first = kept.first;
    second = λ _. refl;
    lasts = tt;
    write = λ same. failing (kept.write same);
    whole = tt;
    whole_report = tt;
    whole_page = tt;
    others_report = kept.others_report;
    others_page = λ _. refl;
  }
    where
      kept : KeepsPromise held failed held_report failed_report s trace_old trace_new report_old report_new (Err fault)
      kept = subst (λ r. KeepsPromise held failed held_report failed_report s trace_old trace_new report_old report_new (summed (rows_tallied r))) is promise

      rows : List Row
      rows = kept.beginning.rows

      failing : (failed trace_old < failed trace_new) ⊎ (failed_report report_old < failed_report report_new)
          → (failed trace_old < failed trace_new) ⊎ ((failed_report report_old < failed_report report_new) ⊎ (failed_page page < failed_page page))
      failing (inl less) = inl less
      failing (inr less) = inr (inl less)

      begun : (AppendsBeginning (held trace_old) (held trace_new) (trace_text s rows) × Keeps (held_report report_old) (held_report report_new))
          ⊎ (Appends (held trace_old) (held trace_new) (trace_text s rows) × AppendsBeginning (held_report report_old) (held_report report_new) (report_text s rows))
          → (AppendsBeginning (held trace_old) (held trace_new) (trace_text s rows) × Keeps (held_report report_old) (held_report report_new) × Keeps (held_page page) (held_page page))
          ⊎ ((Appends (held trace_old) (held trace_new) (trace_text s rows) × AppendsBeginning (held_report report_old) (held_report report_new) (report_text s rows)
          × Keeps (held_page page) (held_page page))
          ⊎ (Appends (held trace_old) (held trace_new) (trace_text s rows) × Appends (held_report report_old) (held_report report_new) (report_text s rows)
          × BeginsPage time name release s rows (held_page page) (held_page page)))
      begun (inl part) = inl (part.0, part.1, Keeps-same (held_page page))
      begun (inr part) = inr (inl (part.0, part.1, Keeps-same (held_page page)))

  -- its trace and its report are whole: they are of the rows that were tallied, since there is one run
  module _ (page_old page_new : C) (outcome : Result PageData Fault) (page_data : PageData) (is : outcome ≡ Ok page_data)
      (promise : KeepsPromise held failed held_report failed_report s trace_old trace_new report_old report_new (summed (rows_tallied outcome)))
      (of_outcome : IfOk outcome (TalliesRun s)) (one : (first second : List Row) → IsRunOf s first → IsRunOf s second → first ≡ second) where
    kept : KeepsPromise held failed held_report failed_report s trace_old trace_new report_old report_new (Ok (record { rows = length page_data.tallies }))
    kept = subst (λ r. KeepsPromise held failed held_report failed_report s trace_old trace_new report_old report_new (summed (rows_tallied r))) is promise

    tallied : TalliesRun s page_data
    tallied = subst (λ r. IfOk r (TalliesRun s)) is of_outcome

    same : kept.written.rows ≡ page_data.tallies
    same = one kept.written.rows page_data.tallies kept.written.run tallied.run

    traced : Appends (held trace_old) (held trace_new) (trace_text s page_data.tallies)
    traced = subst (λ rows. Appends (held trace_old) (held trace_new) (trace_text s rows)) same kept.written.trace

    reported : Appends (held_report report_old) (held_report report_new) (report_text s page_data.tallies)
    reported = subst (λ rows. Appends (held_report report_old) (held_report report_new) (report_text s rows)) same kept.written.report

    -- neither of their sinks has failed
    none_failed : {P : Type 0} → (failed trace_old < failed trace_new) ⊎ (failed_report report_old < failed_report report_new) → P
    none_failed (inl less) = let whole = kept.whole in absurd (omega (arith, whole, less))
    none_failed (inr less) = let whole = kept.whole_report in absurd (omega (arith, whole, less))

    pub paged : (result : Result Summary Fault) → IfOk result (λ summary. summary.rows ≡ length page_data.tallies)
        → OnOk result (WritesPage time name release s page_data.tallies (held_page page_old) (held_page page_new))
        → OnErr result (BeginsPage time name release s page_data.tallies (held_page page_old) (held_page page_new))
        → OnOk result (failed_page page_new ≡ failed_page page_old) → (IsErrOf result Write → failed_page page_old < failed_page page_new)
        → IfErr result (λ cause. cause ≢ Write → failed_page page_new ≡ failed_page page_old)
        → KeepsPagePromise held failed held_report failed_report held_page failed_page time name release s trace_old trace_new report_old report_new page_old page_new result
    paged (Ok summary) counted whole part unfailed write others = record {
      written = record { rows = page_data.tallies; run = tallied.run; counted = counted; trace = traced; report = reported; page = whole };
      beginning = tt;
      first = kept.first;
      second = none_failed;
      lasts = kept.lasts;
      write = λ failing. cc;
      whole = kept.whole;
      whole_report = kept.whole_report;
      whole_page = unfailed;
      others_report = tt;
      others_page = tt;
    }
    paged (Err cause) counted whole part unfailed write others = record {
      written = tt;
      beginning = record { rows = page_data.tallies; run = tallied.run; written = inr (inr (traced, reported, part)) };
      first = kept.first;
      second = none_failed;
      lasts = tt;
      write = λ failing. inr (inr (write failing));
      whole = tt;
      whole_report = tt;
      whole_page = tt;
      others_report = λ _. kept.whole_report;
      others_page = others;
    }
