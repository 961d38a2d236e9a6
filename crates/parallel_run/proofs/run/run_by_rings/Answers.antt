use Rattle.std.proofs.Common.{◌≢◌, ◌^◌, All, sym, arith}
use Rattle.std.proofs.lemmas.Result.{IfOk-weaker, IfErr-at_err}
use Rattle.base.specs.declared.fault.Fault.TheVariants.{Write}
use Rattle.trace.specs.Text.{NamesMembers}
use Rattle.member_laws.specs.Runs.{IsRunOf}
use Rattle.turns.proofs.Goes.{names_run}
use Rattle.run_output.specs.Promise.{ReportOverflows}
use Rattle.run_output.proofs.Faults.{if_same, ok_too, on_came, still_countable}
use Rattle.base.proofs.Faults.{write≢relay}
use Rattle.parallel_run.specs.Relays.{AreClosed}
use Rattle.parallel_run.specs.Settled.{IsSettled}
use Rattle.parallel_run.proofs.run.run_by_rings.Goals as goal

pub end_run-requires-clause-named : goal.end_run-requires-clause-named
end_run-requires-clause-named g c = IfOk-weaker c.run_into-outcome.result _ _ (λ rows run. names_run c.args.scenario.now c.run_into-outcome.ensures.sound rows run) c.run_into-outcome.ensures.trace.run

pub end_run-requires-clause-countable : goal.end_run-requires-clause-countable
end_run-requires-clause-countable g c = still_countable c.run_into-outcome.result _ _ (2 ^ 63) c.run_into-outcome.ensures.trace.unfailed c.requires.countable

pub returns-clause-promise : goal.returns-clause-promise
returns-clause-promise g c = c.end_run.ensures.promise c.args.place.now.trace c.run_into-outcome.ensures.trace

pub returns-clause-lasts_report : goal.returns-clause-lasts_report
returns-clause-lasts_report g c = on_came (¬ (ReportOverflows c.args.scenario.now)) c.end_run.result c.run_into-outcome.result (ok_too c.end_run.result c.run_into-outcome.result c.end_run.ensures.came) c.run_into-outcome.ensures.trace.lasts_report

pub returns-clause-overflow : goal.returns-clause-overflow
returns-clause-overflow g c = λ is. c.run_into-outcome.ensures.trace.overflow (c.end_run.ensures.overflow is)

pub returns-clause-others : goal.returns-clause-others
returns-clause-others g c = λ is.
    let before = c.run_into-outcome.ensures.trace.relay (c.end_run.ensures.relay is) in
    let since = IfErr-at_err (λ fault. fault ≢ Write → _) is c.end_run.ensures.others (λ same. write≢relay (sym same)) in
    omega (arith, before, since)

pub returns-clause-run : goal.returns-clause-run
returns-clause-run g c = if_same (IsRunOf c.args.scenario.now) c.end_run.result c.run_into-outcome.result c.end_run.ensures.came c.run_into-outcome.ensures.trace.run

pub returns-clause-named : goal.returns-clause-named
returns-clause-named g c =
    if_same (All (NamesMembers c.args.scenario.now)) c.end_run.result c.run_into-outcome.result c.end_run.ensures.came
    (IfOk-weaker c.run_into-outcome.result _ _ (λ rows run. names_run c.args.scenario.now c.run_into-outcome.ensures.sound rows run) c.run_into-outcome.ensures.trace.run)

pub returns-clause-gathered : goal.returns-clause-gathered
returns-clause-gathered g c = if_same _ c.end_run.result c.run_into-outcome.result c.end_run.ensures.came c.run_into-outcome.ensures.gathered

pub returns-clause-relayed : goal.returns-clause-relayed
returns-clause-relayed g c = on_came (AreClosed c.args.scenario.now c.args.division.now c.run_into-outcome.new.account) c.end_run.result c.run_into-outcome.result (ok_too c.end_run.result c.run_into-outcome.result c.end_run.ensures.came) c.run_into-outcome.ensures.relayed

pub returns-clause-settled : goal.returns-clause-settled
returns-clause-settled g c = on_came (IsSettled c.args.division.now c.run_into-outcome.new.account) c.end_run.result c.run_into-outcome.result (ok_too c.end_run.result c.run_into-outcome.result c.end_run.ensures.came) c.run_into-outcome.ensures.settled
