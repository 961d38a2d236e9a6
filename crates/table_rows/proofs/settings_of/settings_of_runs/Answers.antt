use Rattle.std.proofs.Common.{◌≡◌, arith, inr, refl, rules, subst}
use Rattle.table_rows.specs.Settings.{BeginsWithSettings}
use Rattle.table_rows.proofs.SettingsOf.{none_yet, one_more}
use Rattle.table_rows.proofs.settings_of.settings_of_runs.Goals as goal

pub loop-count-init : goal.loop-count-init
loop-count-init c = record { utf8 = search rules; so = none_yet c.args.key.now c.args.plan.now c.args.width c.args.first c.args.text.now }

pub loop-count-preserved : goal.loop-count-preserved
loop-count-preserved c = record {
  utf8 = search rules;
  so = one_more c.args.key.now c.args.plan.now c.args.width c.args.first c.loop-count.count c.args.text.now _ _ c.loop-count.invariant.so (rw c.in-Some.is at c.in_ok-rest.ensures.some);
}

pub returns-in_default-clause-no_more : goal.returns-in_default-clause-no_more
returns-in_default-clause-no_more c = inr ((rw c.in_default.is at c.in_ok-rest.ensures.none) refl)

pub returns-clause-begins : goal.returns-clause-begins
returns-clause-begins c =
    let all : c.loop-count.count ≡ c.args.most = omega (arith, c.loop-count-test.false, c.loop-count.auto.count-end) in
    subst (BeginsWithSettings c.args.key.now c.args.plan.now c.args.width c.args.first c.args.text.now c.loop-count.left.now) all c.loop-count.invariant.so
