use Rattle.std.proofs.Common.{◌*◌, sym, subst, ◌∙◌}
use Rattle.toml.specs.View.{view}
use Rattle.sweep_plan.specs.Sweep.{seed_count}
use Rattle.sweep.specs.Judged.{IsAcceptedAt, RefusesBehind}
use Rattle.sweep.specs.Runs.{IsRunAt}
use Rattle.figures.proofs.Handing.{if_err_then}
use Rattle.sweep.proofs.Handing.{on_ok_then}
use Rattle.sweep.proofs.SettingsJudged.{other_refused, others_accepted, setting_more}
use Rattle.sweep.proofs.judging.judge_setting.Goals as goal

pub returns-then-may_differ-clause-accepted : goal.returns-then-may_differ-clause-accepted
returns-then-may_differ-clause-accepted c =
    let tree = view c.args.document.now in
    let plan = c.args.plan.now in
    on_ok_then _ _ c.judge_runs.result c.judge_runs.ensures.accepted
    (others_accepted tree plan c.args.setting c.first_run-first.result c.first_run-first.ensures.first c.in_ok-may_differ.ensures.accepted c.runs_of_setting.result c.runs_of_setting.ensures)

pub returns-then-may_differ-clause-refused : goal.returns-then-may_differ-clause-refused
returns-then-may_differ-clause-refused c =
    let tree = view c.args.document.now in
    let plan = c.args.plan.now in
    let first = c.first_run-first.result in
    if_err_then c.judge_runs.result _ (RefusesBehind tree plan (c.args.setting * seed_count plan.seeds)) c.judge_runs.ensures.refused
    (other_refused tree plan c.args.setting first c.first_run-first.ensures.first c.in_ok-may_differ.ensures.accepted)

pub returns-clause-accepted : goal.returns-clause-accepted
returns-clause-accepted c =
    let tree = view c.args.document.now in
    let plan = c.args.plan.now in
    let is = c.first_run-first.ensures.first in
    let here : IsAcceptedAt tree plan (c.args.setting * seed_count plan.seeds) = subst (IsAcceptedAt tree plan) is c.in_ok-may_differ.ensures.accepted in
    setting_more tree plan c.requires.asked c.args.setting c.requires.within here
    (λ p at. sym (c.in_ok-may_differ.ensures.fourth p (subst (λ n. IsRunAt plan n p) (sym is) at)) ∙ c.if-may_differ.false)
