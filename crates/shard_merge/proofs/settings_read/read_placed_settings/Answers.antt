use Rattle.std.proofs.Common.{◌<◌, sym, subst}
use Rattle.std.specs.Prelude.{OnOk, IfErr}
use Rattle.sweep_plan.specs.Sweep.{seed_count}
use Rattle.figures.proofs.Handing.{if_err_then}
use Rattle.sweep.proofs.Handing.{on_ok_then}
use Rattle.sweep.proofs.Sizes.{some_runs}
use Rattle.table_rows.specs.Settings.{AreSettings, AreSettingsOf, ReadsSettings}
use Rattle.table_rows.specs.Refused.{Refuses}
use Rattle.table_rows.proofs.Items.{refused_so}
use Rattle.shard_merge.proofs.settings_read.read_placed_settings.Goals as goal

pub read_settings-requires-clause-some : goal.read_settings-requires-clause-some
read_settings-requires-clause-some c = subst (λ n. 0 < n) (sym c.runs_of_setting-each.ensures) (some_runs c.args.plan.now c.requires.asked)

pub returns-then-placed-clause-read : goal.returns-then-placed-clause-read
returns-then-placed-clause-read c =
    let read = subst (λ n. OnOk c.read_settings.result (ReadsSettings c.args.width n c.args.lines.now c.args.count c.args.settings.now.items c.read_settings.new.settings.items)) c.runs_of_setting-each.ensures
    c.read_settings.ensures.read in
    on_ok_then _ _ c.read_settings.result read (λ it. (it, c.in_ok-placed.ensures.are c.if-placed.true))

pub returns-then-placed-clause-refused : goal.returns-then-placed-clause-refused
returns-then-placed-clause-refused c =
    let lines = c.args.lines.now in
    let count = c.args.count in
    let each = seed_count c.args.plan.now.seeds in
    let refused = subst (λ n. IfErr c.read_settings.result (Refuses (AreSettings c.args.width n lines count))) c.runs_of_setting-each.ensures c.read_settings.ensures.refused in
    if_err_then c.read_settings.result _ _ refused (λ e none.
    refused_so (AreSettings c.args.width each lines count) (AreSettings c.args.width each lines count × AreSettingsOf c.args.key.now c.args.plan.now c.args.width c.args.first lines count) e
    (λ both. both.0) none)

pub returns-clause-refused : goal.returns-clause-refused
returns-clause-refused c = λ both. c.in_ok-placed.ensures.none c.if-placed.false both.1
