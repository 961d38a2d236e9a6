use Rattle.std.proofs.Common.{◌≡◌, [], rules, sym, subst, arith}
use Rattle.figures.proofs.Handing.{handed}
use Rattle.table_rows.specs.Settings.{AreSettings, HasSetting, IsSetting, shard_setting}
use Rattle.table_rows.specs.Refused.{Refuses}
use Rattle.table_rows.proofs.Items.{nothing_left, one_there, refused_so}
use Rattle.table_rows.proofs.OneSetting.{same_setting}
use Rattle.table_rows.proofs.Read.{settings_more, settings_read, no_settings}
use Rattle.table_rows.proofs.by_settings.read_settings.Goals as goal

pub loop-setting-init : goal.loop-setting-init
loop-setting-init c = record { utf8 = search rules; so = no_settings c.args.width c.args.each c.args.text.now c.args.settings.now.items }

pub loop-setting-preserved : goal.loop-setting-preserved
loop-setting-preserved c = record {
  utf8 = search rules;
  so = settings_more c.args.width c.args.each c.args.text.now _ _ _ _ _ _ c.loop-setting.invariant.so c.in_ok-left.ensures.read;
}

pub returns-in_err-left-clause-refused : goal.returns-in_err-left-clause-refused
returns-in_err-left-clause-refused c =
    let width = c.args.width in
    let each = c.args.each in
    handed c.from_residual.result _ _ c.from_residual.ensures.1 (λ e same.
    refused_so (HasSetting width each _) (AreSettings width each c.args.text.now c.args.count) e
    (λ are. one_there (IsSetting width each) shard_setting (same_setting width each) _ c.args.text.now _ _ c.args.count c.loop-setting.invariant.so are c.loop-setting-test.true)
    (subst (Refuses (HasSetting width each _)) (sym same) c.in_err-left.ensures.refused))

pub returns-then-is_empty-clause-read : goal.returns-then-is_empty-clause-read
returns-then-is_empty-clause-read c =
    settings_read c.args.width c.args.each c.args.text.now _ _ _ _ c.args.count (omega (arith, c.loop-setting-test.false, c.loop-setting.auto._setting-end)) (search rules) c.loop-setting.invariant.so

pub returns-clause-refused : goal.returns-clause-refused
returns-clause-refused c = λ are.
    let width = c.args.width in
    let each = c.args.each in
    let some : ¬ (c.loop-setting.left.now ≡ []) = search rules in
    some
    (nothing_left (IsSetting width each) shard_setting (same_setting width each) _ c.args.text.now _ _ c.args.count c.loop-setting.invariant.so are
    (omega (arith, c.loop-setting-test.false, c.loop-setting.auto._setting-end)))
