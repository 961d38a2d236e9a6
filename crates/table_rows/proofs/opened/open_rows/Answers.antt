use Rattle.std.proofs.Common.{◌≡◌, ◌+◌, ◌-◌, ◌≤◌, arith, refl, rules, subst, sym}
use Rattle.sweep_plan.specs.Sweep.{seed_count}
use Rattle.sweep_until.specs.Until.{AreTooFew}
use Rattle.sweep_until.proofs.ShardSettings.{none_yet}
use Rattle.table_rows.specs.Open.{HasRowOf}
use Rattle.table_rows.proofs.OpenRows.{RowsSo, no_row, not_all, one_row, open_there, too_few}
use Rattle.table_rows.proofs.opened.open_rows.Goals as goal

pub loop-run-init : goal.loop-run-init
loop-run-init c =
    let plan = c.args.plan.now in
    let zero : c.first_run-first.result - c.first_run-first.result ≡ 0 = omega arith in
    record {
      utf8 = search rules;
      low = omega arith;
      so = subst (RowsSo c.args.key.now plan c.first_run-first.result c.args.text.now c.args.text.now c.args.started.now.items) (sym zero)
          (no_row c.args.key.now plan c.first_run-first.result c.args.text.now c.args.started.now.items c.requires.none);
      few = λ width not. subst (AreTooFew width (seed_count plan.seeds)) (sym c.requires.none) (none_yet plan width c.requires.asked);
    }

pub loop-run-preserved : goal.loop-run-preserved
loop-run-preserved c =
    let plan = c.args.plan.now in
    let key = c.args.key.now in
    let first = c.first_run-first.result in
    let number = c.loop-run.run in
    let place : first + (number - first) ≡ number = omega (arith, c.loop-run.invariant.low) in
    let next : number - first + 1 ≡ number + 1 - first = omega (arith, c.loop-run.invariant.low) in
    let row = rw c.in-Some.is at c.in_ok-rest.ensures.some in
    let so = one_row key plan first (number - first) number c.args.text.now c.loop-run.left.now c.in-Some.rest.now c.loop-run.started.items c.behind_row.new.started.items place c.loop-run.invariant.so row in
    record {
      utf8 = search rules;
      low = omega (arith, c.loop-run.invariant.low);
      so = subst (RowsSo key plan first c.args.text.now c.in-Some.rest.now c.behind_row.new.started.items) next so;
      few = λ width not. too_few key plan width c.args.number first c.first_run-first.ensures.first c.args.text.now not (number - first + 1) c.in-Some.rest.now c.loop-run.started.items c.behind_row.new.started.items
          row.begins.one.note row.added (c.loop-run.invariant.few width not) so;
    }

pub returns-in_default : goal.returns-in_default
returns-in_default c = λ width not.
    let plan = c.args.plan.now in
    let key = c.args.key.now in
    let first = c.first_run-first.result in
    let number = c.loop-run.run in
    let same = (rw c.in_default.is at c.in_ok-rest.ensures.same) refl in
    let place : first + (number - first) ≡ number = omega (arith, c.loop-run.invariant.low) in
    open_there key plan width c.args.number first c.first_run-first.ensures.first c.args.text.now not (number - first) c.loop-run.left.now c.behind_row.new.started.items
    (subst (λ notes. RowsSo key plan first c.args.text.now c.loop-run.left.now notes (number - first)) (sym same) c.loop-run.invariant.so)
    (subst (AreTooFew width (seed_count plan.seeds)) (sym same) (c.loop-run.invariant.few width not))
    (subst (λ n. ¬ (HasRowOf key plan n c.loop-run.left.now)) (sym place) ((rw c.in_default.is at c.in_ok-rest.ensures.none) refl))

pub returns : goal.returns
returns c = λ width not.
    let plan = c.args.plan.now in
    let first = c.first_run-first.result in
    let number = c.loop-run.run in
    let all : seed_count plan.seeds ≤ number - first = omega (arith, c.loop-run-test.false, c.loop-run.auto.run-end, c.runs_of_setting.ensures, c.loop-run.invariant.low) in
    absurd
    (not_all c.args.key.now plan width c.args.number first c.first_run-first.ensures.first c.args.text.now not (number - first) c.loop-run.left.now c.loop-run.started.items c.loop-run.invariant.so
    (c.loop-run.invariant.few width not) all)
