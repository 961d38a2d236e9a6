use Rattle.std.proofs.Common.{◌≢◌, ◌^◌, All, refl}
use Rattle.std.proofs.lemmas.Result.{IfOk-weaker, IfErr-at_err}
use Rattle.base.specs.declared.fault.Fault.TheVariants.{ThreadLost}
use Rattle.trace.specs.Text.{NamesMembers}
use Rattle.turns.proofs.Goes.{names_run}
use Rattle.run_output.proofs.Faults.{if_same, ok_too, on_came, never, still_countable}
use Rattle.member_laws.specs.Runs.{IsRunOf}
use Rattle.run_output.specs.Promise.{ReportOverflows}
use Rattle.sequential_run.proofs.Faults.{failures_told}
use Rattle.sequential_run.proofs.one_queue.run_streamed.Goals as goal

pub end_run-requires-clause-named : goal.end_run-requires-clause-named
end_run-requires-clause-named g c = IfOk-weaker c.stream_run-outcome.result _ _ (λ rows run. names_run c.args.scenario.now c.end-end.ensures.sound rows run) c.stream_run-outcome.ensures.run

pub end_run-requires-clause-countable : goal.end_run-requires-clause-countable
end_run-requires-clause-countable g c = still_countable c.stream_run-outcome.result _ _ (2 ^ 63) c.stream_run-outcome.ensures.unfailed c.requires.countable

pub returns-clause-promise : goal.returns-clause-promise
returns-clause-promise g c =
    let kept = c.stream_run-outcome.ensures in
    c.end_run.ensures.promise c.args.place.now.trace (record {
      run = kept.run;
      whole = kept.whole;
      part = kept.part;
      lasts = kept.lasts;
      lasts_report = kept.lasts_report;
      overflow = kept.overflow;
      write = kept.write;
      unfailed = kept.unfailed;
      relay = λ is. absurd (IfErr-at_err (λ fault. fault ≢ ThreadLost) is kept.relay refl);
    })

pub returns-clause-lasts_report : goal.returns-clause-lasts_report
returns-clause-lasts_report g c = on_came (¬ (ReportOverflows c.args.scenario.now)) c.end_run.result c.stream_run-outcome.result (ok_too c.end_run.result c.stream_run-outcome.result c.end_run.ensures.came) c.stream_run-outcome.ensures.lasts_report

pub returns-clause-overflow : goal.returns-clause-overflow
returns-clause-overflow g c = λ is. c.stream_run-outcome.ensures.overflow (c.end_run.ensures.overflow is)

pub returns-clause-relay : goal.returns-clause-relay
returns-clause-relay g c = never c.end_run.result ThreadLost (λ is. IfErr-at_err (λ fault. fault ≢ ThreadLost) (c.end_run.ensures.relay is) c.stream_run-outcome.ensures.relay refl)

pub returns-clause-run : goal.returns-clause-run
returns-clause-run g c = if_same (IsRunOf c.args.scenario.now) c.end_run.result c.stream_run-outcome.result c.end_run.ensures.came c.stream_run-outcome.ensures.run

pub returns-clause-named : goal.returns-clause-named
returns-clause-named g c =
    if_same (All (NamesMembers c.args.scenario.now)) c.end_run.result c.stream_run-outcome.result c.end_run.ensures.came
    (IfOk-weaker c.stream_run-outcome.result _ _ (λ rows run. names_run c.args.scenario.now c.end-end.ensures.sound rows run) c.stream_run-outcome.ensures.run)

pub returns-clause-gathered : goal.returns-clause-gathered
returns-clause-gathered g c = if_same _ c.end_run.result c.stream_run-outcome.result c.end_run.ensures.came c.stream_run-outcome.ensures.gathered

pub returns-clause-others : goal.returns-clause-others
returns-clause-others g c =
    let came = c.stream_run-outcome.ensures in
    failures_told c.stream_run-outcome.result c.end_run.result _ _ _ c.end_run.ensures.fault came.unfailed came.others c.end_run.ensures.others
