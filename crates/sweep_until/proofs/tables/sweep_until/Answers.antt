use Rattle.std.proofs.Common.{◌-◌, subst}
use Rattle.toml.specs.View.{view}
use Rattle.run_output.proofs.Faults.{on_err}
use Rattle.sweep_until.specs.Shards.{rest_settings, settings_in}
use Rattle.sweep_until.specs.Until.{BeginsSettings, HasSettings}
use Rattle.sweep_until.proofs.tables.sweep_until.Goals as goal

pub returns-in_err-write_settings-clause-part : goal.returns-in_err-write_settings-clause-part
returns-in_err-write_settings-clause-part g c =
    let tree = view c.args.document.now in
    let plan = c.args.plan.now in
    let old = g.S.Sink.held c.args.table.now in
    let new = g.S.Sink.held c.write_settings.new.table in
    on_err c.from_residual.result
    (subst (λ p. BeginsSettings tree plan c.args.width (rest_settings tree c.args.mark.now plan p 0 0) old new) c.whole.ensures.only c.in_err-write_settings.ensures.part)

pub returns-clause-whole : goal.returns-clause-whole
returns-clause-whole g c =
    let tree = view c.args.document.now in
    let plan = c.args.plan.now in
    let old = g.S.Sink.held c.args.table.now in
    let new = g.S.Sink.held c.write_settings.new.table in
    subst (λ p. HasSettings tree plan c.args.width (rest_settings tree c.args.mark.now plan p 0 0) old new (settings_in plan p - 0) c.write_settings.new.settings.items)
    c.whole.ensures.only c.in_ok-write_settings.ensures.whole
