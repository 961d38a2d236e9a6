use Rattle.std.proofs.Common.{◌≡◌, sym, subst, arith}
use Rattle.toml.specs.View.{view}
use Rattle.sweep.specs.Judged.{AreFirstAccepted, RefusesBehind}
use Rattle.figures.proofs.Handing.{handed}
use Rattle.sweep.proofs.Steps.{accepted_more}
use Rattle.sweep.proofs.judging.judge_runs.Goals as goal

pub loop-number-preserved : goal.loop-number-preserved
loop-number-preserved c =
    λ before. accepted_more (view c.args.document.now) c.args.plan.now c.loop-number.number c.in_ok-judge_run.ensures.accepted (c.loop-number.invariant before)

pub returns-clause-accepted : goal.returns-clause-accepted
returns-clause-accepted c =
    let ended : c.loop-number.number ≡ c.args.till = omega (arith, c.loop-number-test.false, c.loop-number.auto.number-end c.requires.ordered) in
    λ before. subst (AreFirstAccepted (view c.args.document.now) c.args.plan.now) ended (c.loop-number.invariant before)

pub returns-in_err-judge_run-clause-refused : goal.returns-in_err-judge_run-clause-refused
returns-in_err-judge_run-clause-refused c =
    let refuses = RefusesBehind (view c.args.document.now) c.args.plan.now c.args.from in
    handed c.from_residual.result _ refuses c.from_residual.ensures.1
    (λ r same. subst refuses (sym same) (λ other before. c.in_err-judge_run.ensures.refused other (c.loop-number.invariant before)))
