use Rattle.std.proofs.Common.{◌≡◌, [], length, arith, rules}
use Rattle.sweep.proofs.Sizes.{some_runs}
use Rattle.table_rows.proofs.SettingsOf.{all_so, not_so}
use Rattle.table_rows.proofs.settings_of.are_settings_of.Goals as goal

pub returns-then-stood-count-clause-none : goal.returns-then-stood-count-clause-none
returns-then-stood-count-clause-none c = λ _.
    let stood = c.in_ok-stood in
    let plan = c.args.plan.now in
    not_so c.args.key.now plan c.args.width (some_runs plan c.requires.asked) c.args.first c.args.count stood.stood.count c.args.text.now stood.stood.left.now stood.ensures.begins
    stood.ensures.no_more (λ same none. omega (arith, same, c.if-stood-count.true))

pub returns-clause-are : goal.returns-clause-are
returns-clause-are c = λ yes.
    let stood = c.in_ok-stood in
    let plan = c.args.plan.now in
    let none : length stood.stood.left.now ≡ 0 = search rules in
    all_so c.args.key.now plan c.args.width (some_runs plan c.requires.asked) c.args.first c.args.count stood.stood.count c.args.text.now stood.stood.left.now stood.ensures.begins
    stood.ensures.few c.if-stood-count.false none

pub returns-clause-none : goal.returns-clause-none
returns-clause-none c = λ off.
    let stood = c.in_ok-stood in
    let plan = c.args.plan.now in
    let more : ¬ (stood.stood.left.now ≡ []) = search rules in
    not_so c.args.key.now plan c.args.width (some_runs plan c.requires.asked) c.args.first c.args.count stood.stood.count c.args.text.now stood.stood.left.now stood.ensures.begins
    stood.ensures.no_more (λ same none. more none)
