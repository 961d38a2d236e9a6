use Rattle.std.proofs.Common.{rules, sym, subst, arith}
use Rattle.figures.proofs.Handing.{handed}
use Rattle.table_rows.specs.Settings.{HasSetting}
use Rattle.table_rows.specs.Lines.{HasLine}
use Rattle.table_rows.specs.Refused.{Refuses}
use Rattle.table_rows.proofs.Items.{refused_so}
use Rattle.table_rows.proofs.OneSetting.{setting_ends, setting_full, goes_further, line_there, no_line_read}
use Rattle.table_rows.proofs.by_settings.read_setting.Goals as goal

pub loop-run-init : goal.loop-run-init
loop-run-init c = record { utf8 = search rules; goes = no_line_read c.args.width c.args.text.now c.args.runs.now c.requires.none }

pub loop-run-preserved : goal.loop-run-preserved
loop-run-preserved c = record {
  utf8 = search rules;
  goes = goes_further c.args.width c.args.text.now _ _ _ _ _ c.loop-run.invariant.goes c.in_ok-left.ensures.read c.is_narrow.result c.is_narrow.ensures c.if-is_narrow.false;
}

pub returns-then-is_narrow-clause-read : goal.returns-then-is_narrow-clause-read
returns-then-is_narrow-clause-read c =
    setting_ends c.args.width c.args.text.now _ _ _ _ _ c.loop-run.invariant.goes c.in_ok-left.ensures.read c.is_narrow.result c.is_narrow.ensures c.args.each c.loop-run-test.true
    c.if-is_narrow.true

pub returns-in_err-left-clause-refused : goal.returns-in_err-left-clause-refused
returns-in_err-left-clause-refused c =
    handed c.from_residual.result _ _ c.from_residual.ensures.1 (λ e same.
    refused_so (HasLine _) (HasSetting c.args.width c.args.each c.args.text.now) e
    (line_there c.args.width c.args.each c.args.text.now _ _ _ c.loop-run.invariant.goes c.loop-run-test.true)
    (subst (Refuses (HasLine _)) (sym same) c.in_err-left.ensures.refused))

pub returns-clause-read : goal.returns-clause-read
returns-clause-read c =
    setting_full c.args.width c.args.each c.args.text.now _ _ _ c.loop-run.invariant.goes (omega (arith, c.loop-run-test.false, c.loop-run.auto._run-end))
