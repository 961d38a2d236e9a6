use Rattle.std.proofs.Common.{◌≡◌, [], rules, subst, sym}
use Rattle.toml.specs.View.{view}
use Rattle.sweep.proofs.Handing.{on_err_then, on_ok_then}
use Rattle.sweep_until.specs.Shards.{BeginsRestUntil, WritesRestUntil}
use Rattle.sweep_until.proofs.Behind.{nothing_left}
use Rattle.sweep_until.proofs.ShardSettings.{a_width, rest_begun, rest_whole}
use Rattle.sweep_until.proofs.tables.write_table_until.Goals as goal

pub write_settings-requires-clause-most : goal.write_settings-requires-clause-most
write_settings-requires-clause-most g c _ _ = a_width c.args.plan.now c.width_of-width.result c.requires.asked c.width_of-width.ensures

pub write_settings-requires-clause-few : goal.write_settings-requires-clause-few
write_settings-requires-clause-few g c _ _ = c.requires.begun.few

pub write_open-requires-clause-some : goal.write_open-requires-clause-some
write_open-requires-clause-some g c = search rules

pub returns-then-is_empty-clause-whole : goal.returns-then-is_empty-clause-whole
returns-then-is_empty-clause-whole g c =
    let tree = view c.args.document.now in
    let plan = c.args.plan.now in
    let old = g.S.Sink.held c.args.table.now in
    let new = g.S.Sink.held c.write_settings.new.table in
    let none : c.args.begun.now.started.items ≡ [] = nothing_left c.args.begun.now.started.items (search rules) in
    on_ok_then _ _ c.write_settings.result c.write_settings.ensures.whole
    (λ has. subst (λ before. WritesRestUntil tree c.args.mark.now plan c.args.shard c.args.begun.now.kept c.args.begun.now.count before old new) (sym none)
    (rest_whole tree plan c.args.mark.now c.args.shard c.args.begun.now.kept c.args.begun.now.count c.width_of-width.result c.width_of-width.ensures old new c.write_settings.new.settings.items has))

pub returns-then-is_empty-clause-part : goal.returns-then-is_empty-clause-part
returns-then-is_empty-clause-part g c =
    let tree = view c.args.document.now in
    let plan = c.args.plan.now in
    let old = g.S.Sink.held c.args.table.now in
    let new = g.S.Sink.held c.write_settings.new.table in
    let none : c.args.begun.now.started.items ≡ [] = nothing_left c.args.begun.now.started.items (search rules) in
    on_err_then _ _ c.write_settings.result c.write_settings.ensures.part
    (λ begins. subst (λ before. BeginsRestUntil tree c.args.mark.now plan c.args.shard c.args.begun.now.kept c.args.begun.now.count before old new) (sym none)
    (rest_begun tree plan c.args.mark.now c.args.shard c.args.begun.now.kept c.args.begun.now.count c.width_of-width.result c.width_of-width.ensures old new begins))
