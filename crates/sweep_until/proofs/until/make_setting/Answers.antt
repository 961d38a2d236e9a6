use Rattle.std.proofs.Common.{◌+◌, ap, arith, length, refl, subst, sym}
use Rattle.toml.specs.View.{view}
use Rattle.run_output.proofs.Faults.{on_err}
use Rattle.sweep_until.specs.Until.{GoesOn, HasEnded, setting_course}
use Rattle.sweep_until.proofs.Settings.{setting_begins, setting_ended, setting_made, has_some, setting_waits}
use Rattle.sweep_until.proofs.until.make_setting.Goals as goal

pub overflow_add-from : goal.overflow_add-from
overflow_add-from g c = omega (arith, c.requires.open_yet.few, c.runs_of_setting.ensures, c.first_run-first.ensures.first)

pub make_runs_of-requires-clause-some : goal.make_runs_of-requires-clause-some
make_runs_of-requires-clause-some g c = omega (arith, c.requires.open_yet.few, c.runs_of_setting.ensures)

pub returns-in_err-runs-clause-part : goal.returns-in_err-runs-clause-part
returns-in_err-runs-clause-part g c =
    on_err c.from_residual.result
    (setting_waits (view c.args.document.now) c.args.plan.now c.args.key.now c.args.width c.args.before.now c.args.number (g.S.Sink.held c.args.table.now) c.requires.open_yet)

pub into_summary-requires : goal.into_summary-requires
into_summary-requires g c =
    let tree = view c.args.document.now in
    let plan = c.args.plan.now in
    let before = c.args.before.now in
    let old = g.S.Sink.held c.args.table.now in
    let course = setting_course plan c.args.key.now c.args.number before old in
    let past = c.first_run-first.result + c.runs_of_setting.result in
    let from = ap (λ n. n + length before) c.first_run-first.ensures.first in
    let begins = subst (GoesOn tree plan c.args.width before course old c.in_ok-runs.runs) (sym from)
    (setting_begins tree plan c.args.key.now c.args.width before c.args.number old c.in_ok-runs.runs c.in_ok-runs.ensures c.requires.open_yet) in
    let ended = subst (λ n. HasEnded tree plan c.args.width before course (g.S.Sink.held c.make_runs_of.new.table) c.make_runs_of.new.runs n past) from (c.in_ok-make_runs_of.ensures.whole before course refl begins) in
    has_some tree plan c.args.key.now c.args.width before c.the_run_is_one.ensures c.args.number c.requires.within old (g.S.Sink.held c.make_runs_of.new.table) c.make_runs_of.new.runs past
    (omega (arith, c.first_run-first.ensures.first, c.runs_of_setting.ensures)) ended

pub returns-in_err-make_runs_of-clause-part : goal.returns-in_err-make_runs_of-clause-part
returns-in_err-make_runs_of-clause-part g c =
    let tree = view c.args.document.now in
    let plan = c.args.plan.now in
    let before = c.args.before.now in
    let old = g.S.Sink.held c.args.table.now in
    let course = setting_course plan c.args.key.now c.args.number before old in
    let from = ap (λ n. n + length before) c.first_run-first.ensures.first in
    let begins = subst (GoesOn tree plan c.args.width before course old c.in_ok-runs.runs) (sym from)
    (setting_begins tree plan c.args.key.now c.args.width before c.args.number old c.in_ok-runs.runs c.in_ok-runs.ensures c.requires.open_yet) in
    on_err c.from_residual-in_err-make_runs_of.result (c.in_err-make_runs_of.ensures.part before course refl (omega (arith, c.first_run-first.ensures.first, c.runs_of_setting.ensures)) begins)

pub returns-in_err-setting-clause-part : goal.returns-in_err-setting-clause-part
returns-in_err-setting-clause-part g c =
    let tree = view c.args.document.now in
    let plan = c.args.plan.now in
    let before = c.args.before.now in
    let old = g.S.Sink.held c.args.table.now in
    let course = setting_course plan c.args.key.now c.args.number before old in
    let past = c.first_run-first.result + c.runs_of_setting.result in
    let from = ap (λ n. n + length before) c.first_run-first.ensures.first in
    let begins = subst (GoesOn tree plan c.args.width before course old c.in_ok-runs.runs) (sym from)
    (setting_begins tree plan c.args.key.now c.args.width before c.args.number old c.in_ok-runs.runs c.in_ok-runs.ensures c.requires.open_yet) in
    let ended = subst (λ n. HasEnded tree plan c.args.width before course (g.S.Sink.held c.make_runs_of.new.table) c.make_runs_of.new.runs n past) from (c.in_ok-make_runs_of.ensures.whole before course refl begins) in
    on_err c.from_residual-in_err-setting.result
    (setting_ended tree plan c.args.key.now c.args.width before c.the_run_is_one.ensures c.args.number c.requires.within old (g.S.Sink.held c.make_runs_of.new.table) c.make_runs_of.new.runs past
    (omega (arith, c.first_run-first.ensures.first, c.runs_of_setting.ensures)) ended)

pub returns-clause-whole : goal.returns-clause-whole
returns-clause-whole g c =
    let tree = view c.args.document.now in
    let plan = c.args.plan.now in
    let before = c.args.before.now in
    let old = g.S.Sink.held c.args.table.now in
    let course = setting_course plan c.args.key.now c.args.number before old in
    let past = c.first_run-first.result + c.runs_of_setting.result in
    let from = ap (λ n. n + length before) c.first_run-first.ensures.first in
    let begins = subst (GoesOn tree plan c.args.width before course old c.in_ok-runs.runs) (sym from)
    (setting_begins tree plan c.args.key.now c.args.width before c.args.number old c.in_ok-runs.runs c.in_ok-runs.ensures c.requires.open_yet) in
    let ended = subst (λ n. HasEnded tree plan c.args.width before course (g.S.Sink.held c.make_runs_of.new.table) c.make_runs_of.new.runs n past) from (c.in_ok-make_runs_of.ensures.whole before course refl begins) in
    setting_made tree plan c.args.key.now c.args.width before c.the_run_is_one.ensures c.args.number c.requires.within old (g.S.Sink.held c.make_runs_of.new.table) c.make_runs_of.new.runs past
    (omega (arith, c.first_run-first.ensures.first, c.runs_of_setting.ensures)) ended c.in_ok-setting.setting c.in_ok-setting.ensures
