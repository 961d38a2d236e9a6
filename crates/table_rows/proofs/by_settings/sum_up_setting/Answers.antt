use Rattle.std.proofs.Common.{sym, subst}
use Rattle.figures.proofs.Handing.{handed}
use Rattle.table_rows.specs.Settings.{HasSetting}
use Rattle.table_rows.specs.Refused.{Refuses}
use Rattle.table_rows.proofs.OneSetting.{has_some}
use Rattle.table_rows.proofs.by_settings.sum_up_setting.Goals as goal

pub push_summary-requires : goal.push_summary-requires
push_summary-requires c = has_some c.args.width c.args.each c.args.text.now _ _ c.requires.some c.in_ok-left.ensures.read

pub returns-in-Ok-clause-read : goal.returns-in-Ok-clause-read
returns-in-Ok-clause-read c =
    let reads = c.in_ok-left.ensures.read in
    let summed = c.in-Ok.ensures _ reads.noted in
    record { begins = reads.begins; summary = summed.0; summed = summed.1; added = summed.2 }

pub returns-in_err-left-clause-refused : goal.returns-in_err-left-clause-refused
returns-in_err-left-clause-refused c =
    handed c.from_residual.result _ _ c.from_residual.ensures.1
    (λ e same. subst (Refuses (HasSetting c.args.width c.args.each c.args.text.now)) (sym same) c.in_err-left.ensures.refused)
