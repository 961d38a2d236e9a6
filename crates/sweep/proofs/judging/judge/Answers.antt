use Rattle.std.proofs.Common.{◌≢◌, sym, subst, arith}
use Rattle.toml.specs.View.{view}
use Rattle.sweep.specs.Runs.{planned_as}
use Rattle.sweep.specs.Judged.{IsFirstRefused}
use Rattle.figures.proofs.Handing.{handed}
use Rattle.sweep.proofs.SettingsJudged.{all_settings}
use Rattle.sweep.proofs.judging.judge.Goals as goal

pub returns-clause-accepted : goal.returns-clause-accepted
returns-clause-accepted c =
    all_settings (view c.args.document.now) c.args.plan.now c.loop-setting.setting
    (omega (arith, c.loop-setting-test.false, c.loop-setting.auto.setting-end, c.settings-setting-end.ensures)) c.loop-setting.invariant

pub returns-in_err-judge_setting-clause-refused : goal.returns-in_err-judge_setting-clause-refused
returns-in_err-judge_setting-clause-refused c =
    let tree = view c.args.document.now in
    let plan = c.args.plan.now in
    handed c.from_residual.result _ (λ r. r.refusal.rule ≢ 11 → IsFirstRefused tree plan (planned_as r.setting.items r.seed) r.refusal.rule) c.from_residual.ensures.1
    (λ r same. subst (λ r. r.refusal.rule ≢ 11 → IsFirstRefused tree plan (planned_as r.setting.items r.seed) r.refusal.rule) (sym same)
    (λ other. c.in_err-judge_setting.ensures.refused other c.loop-setting.invariant))
