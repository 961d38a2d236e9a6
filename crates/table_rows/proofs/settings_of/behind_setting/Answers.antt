use Rattle.std.proofs.Common.{◌≡◌, [], length, rules}
use Rattle.table_rows.proofs.SettingsOf.{setting_there, setting_unplaced, left_within, no_setting}
use Rattle.table_rows.proofs.settings_of.behind_setting.Goals as goal

pub before-lines-requires : goal.before-lines-requires
before-lines-requires c = left_within c.args.width c.runs_of_setting-each.result c.args.text.now _ _ c.in-Ok.ensures.read

pub returns-in-Err-Torn-clause-none : goal.returns-in-Err-Torn-clause-none
returns-in-Err-Torn-clause-none c = λ _.
    no_setting c.args.key.now c.args.plan.now c.args.width c.runs_of_setting-each.result c.args.number c.runs_of_setting-each.ensures c.args.text.now
    (rw c.in-Err-Torn.field-0-is at c.in-Err-Torn.ensures.refused)

pub returns-then-is_empty-clause-some : goal.returns-then-is_empty-clause-some
returns-then-is_empty-clause-some c =
    let stood = c.in_ok-stood in
    let none : length stood.stood.left.now ≡ 0 = search rules in
    setting_there c.args.key.now c.args.plan.now c.args.width c.runs_of_setting-each.result c.args.number c.runs_of_setting-each.ensures c.args.text.now c.in-Ok.left.now _ c.in-Ok.ensures.read
    c.before-lines.result.now stood.stood.left.now c.before-lines.ensures c.first_run-first.result stood.stood.count c.first_run-first.ensures.first stood.ensures.begins stood.ensures.few none

pub returns-clause-none : goal.returns-clause-none
returns-clause-none c = λ _.
    let stood = c.in_ok-stood in
    let more : ¬ (stood.stood.left.now ≡ []) = search rules in
    setting_unplaced c.args.key.now c.args.plan.now c.args.width c.runs_of_setting-each.result c.args.number c.runs_of_setting-each.ensures c.args.text.now c.in-Ok.left.now _ c.in-Ok.ensures.read
    c.before-lines.result.now stood.stood.left.now c.before-lines.ensures c.first_run-first.result stood.stood.count c.first_run-first.ensures.first stood.ensures.begins stood.ensures.few more
    stood.ensures.no_more
