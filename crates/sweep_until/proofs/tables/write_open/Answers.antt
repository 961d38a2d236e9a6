use Rattle.std.proofs.Common.{arith}
use Rattle.toml.specs.View.{view}
use Rattle.run_output.proofs.Faults.{on_err}
use Rattle.sweep.proofs.Handing.{on_err_then, on_ok_then}
use Rattle.sweep_until.proofs.Behind.{is_there, rest_begins, rest_made, rest_waits}
use Rattle.sweep_until.proofs.ShardSettings.{a_width, few_settings, settings_within}
use Rattle.sweep_until.proofs.tables.write_open.Goals as goal

pub finish_setting-requires-clause-most : goal.finish_setting-requires-clause-most
finish_setting-requires-clause-most g c _ _ = a_width c.args.plan.now c.args.width c.requires.asked c.requires.wanted

pub finish_setting-requires-clause-some : goal.finish_setting-requires-clause-some
finish_setting-requires-clause-some g c _ _ = (is_there c.requires.begun c.requires.some).0

pub finish_setting-requires-clause-open_yet : goal.finish_setting-requires-clause-open_yet
finish_setting-requires-clause-open_yet g c _ _ = c.requires.begun.open_yet c.args.width c.requires.wanted

pub overflow_add-begun : goal.overflow_add-begun
overflow_add-begun g c =
    omega (arith, (is_there c.requires.begun c.requires.some).0, few_settings c.args.plan.now c.requires.asked, settings_within c.args.plan.now c.args.shard c.requires.shard)

pub write_settings-requires-clause-few : goal.write_settings-requires-clause-few
write_settings-requires-clause-few g c _ _ = omega (arith, (is_there c.requires.begun c.requires.some).0)

pub write_settings-requires-clause-most : goal.write_settings-requires-clause-most
write_settings-requires-clause-most g c _ _ = a_width c.args.plan.now c.args.width c.requires.asked c.requires.wanted

pub returns-in_err-finish_setting-clause-part : goal.returns-in_err-finish_setting-clause-part
returns-in_err-finish_setting-clause-part g c =
    let plan = c.args.plan.now in
    let there = is_there c.requires.begun c.requires.some in
    on_err c.from_residual.result
    (rest_waits (view c.args.document.now) plan c.args.mark.now c.args.shard c.args.begun.now.kept c.args.begun.now.count c.args.begun.now.started.items c.args.width c.requires.wanted c.requires.some there.0 there.1
    c.the_run_is_one.ensures c.a_run_exists.ensures c.requires.judged (settings_within plan c.args.shard c.requires.shard) (g.S.Sink.held c.args.table.now) (g.S.Sink.held c.finish_setting.new.table)
    c.in_err-finish_setting.ensures.part)

pub returns-clause-whole : goal.returns-clause-whole
returns-clause-whole g c =
    let plan = c.args.plan.now in
    let there = is_there c.requires.begun c.requires.some in
    on_ok_then _ _ c.write_settings.result c.write_settings.ensures.whole
    (rest_made (view c.args.document.now) plan c.args.mark.now c.args.shard c.args.begun.now.kept c.args.begun.now.count c.args.begun.now.started.items c.args.width c.requires.wanted c.requires.some there.0 there.1
    (g.S.Sink.held c.args.table.now) (g.S.Sink.held c.finish_setting.new.table) (g.S.Sink.held c.write_settings.new.table) c.in_ok-finish_setting.ensures.whole c.write_settings.new.settings.items)

pub returns-clause-part : goal.returns-clause-part
returns-clause-part g c =
    let plan = c.args.plan.now in
    let there = is_there c.requires.begun c.requires.some in
    on_err_then _ _ c.write_settings.result c.write_settings.ensures.part
    (rest_begins (view c.args.document.now) plan c.args.mark.now c.args.shard c.args.begun.now.kept c.args.begun.now.count c.args.begun.now.started.items c.args.width c.requires.wanted c.requires.some there.0 there.1
    (g.S.Sink.held c.args.table.now) (g.S.Sink.held c.finish_setting.new.table) (g.S.Sink.held c.write_settings.new.table) c.in_ok-finish_setting.ensures.whole)
