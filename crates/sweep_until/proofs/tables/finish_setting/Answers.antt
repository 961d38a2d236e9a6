use Rattle.std.proofs.Common.{◌≡◌, ◌∙◌, ◌+◌, ap, arith, subst}
use Rattle.toml.specs.View.{view}
use Rattle.shards.specs.Shards.{first_run}
use Rattle.run_output.proofs.Faults.{on_err}
use Rattle.sweep.specs.Sums.{sweep_key}
use Rattle.sweep_until.specs.Shards.{first_setting}
use Rattle.sweep_until.specs.Until.{BeginsWide, MakesSetting, setting_course}
use Rattle.sweep_until.proofs.Settings.{setting_waits}
use Rattle.sweep_until.proofs.ShardSettings.{few_settings, settings_within}
use Rattle.sweep_until.proofs.tables.finish_setting.Goals as goal

pub first-first-requires-clause-few : goal.first-first-requires-clause-few
first-first-requires-clause-few g c = omega (arith, few_settings c.args.plan.now c.requires.asked, c.settings-count.ensures)

pub past-requires-clause-few : goal.past-requires-clause-few
past-requires-clause-few g c = omega (arith, few_settings c.args.plan.now c.requires.asked, c.settings-count.ensures)

pub overflow_add-number : goal.overflow_add-number
overflow_add-number g c =
    let first : c.first-first.result ≡ first_setting c.args.plan.now c.args.shard = c.first-first.ensures.first ∙ ap (first_run c.args.shard) c.settings-count.ensures in
    omega (arith, first, c.requires.some, few_settings c.args.plan.now c.requires.asked, settings_within c.args.plan.now c.args.shard c.requires.shard)

pub make_setting-requires-clause-within : goal.make_setting-requires-clause-within
make_setting-requires-clause-within g c =
    let first : c.first-first.result ≡ first_setting c.args.plan.now c.args.shard = c.first-first.ensures.first ∙ ap (first_run c.args.shard) c.settings-count.ensures in
    omega (arith, first, c.requires.some, settings_within c.args.plan.now c.args.shard c.requires.shard)

pub returns-in_err-key-clause-part : goal.returns-in_err-key-clause-part
returns-in_err-key-clause-part g c =
    let plan = c.args.plan.now in
    on_err c.from_residual.result
    (setting_waits (view c.args.document.now) plan (sweep_key c.args.mark.now plan) c.args.width c.args.begun.now.started.items (first_setting plan c.args.shard + c.args.begun.now.count)
    (g.S.Sink.held c.args.table.now) c.requires.open_yet)

pub returns-in_err-make_setting-clause-part : goal.returns-in_err-make_setting-clause-part
returns-in_err-make_setting-clause-part g c =
    let tree = view c.args.document.now in
    let plan = c.args.plan.now in
    let before = c.as_slice-started.result.now in
    let place = first_setting plan c.args.shard + c.args.begun.now.count in
    let key = sweep_key c.args.mark.now plan in
    let old = g.S.Sink.held c.args.table.now in
    let new = g.S.Sink.held c.make_setting.new.table in
    let number : c.first-first.result + c.args.begun.now.count ≡ place =
    ap (λ n. n + c.args.begun.now.count) (c.first-first.ensures.first ∙ ap (first_run c.args.shard) c.settings-count.ensures) in
    on_err c.from_residual-in_err-make_setting.result
    (subst (λ b. BeginsWide tree plan c.args.width b (setting_course plan key place b old) new) c.as_slice-started.ensures.value
    (subst (λ n. BeginsWide tree plan c.args.width before (setting_course plan key n before old) new) number
    (subst (λ k. BeginsWide tree plan c.args.width before (setting_course plan k (c.first-first.result + c.args.begun.now.count) before old) new) c.in_ok-key.ensures c.in_err-make_setting.ensures.part)))

pub returns-clause-whole : goal.returns-clause-whole
returns-clause-whole g c =
    let tree = view c.args.document.now in
    let plan = c.args.plan.now in
    let before = c.as_slice-started.result.now in
    let place = first_setting plan c.args.shard + c.args.begun.now.count in
    let key = sweep_key c.args.mark.now plan in
    let old = g.S.Sink.held c.args.table.now in
    let new = g.S.Sink.held c.make_setting.new.table in
    let setting = c.in_ok-make_setting.field-0 in
    let number : c.first-first.result + c.args.begun.now.count ≡ place =
    ap (λ n. n + c.args.begun.now.count) (c.first-first.ensures.first ∙ ap (first_run c.args.shard) c.settings-count.ensures) in (
      setting,
      subst (λ b. MakesSetting tree plan key c.args.width place b old new setting) c.as_slice-started.ensures.value
          (subst (λ n. MakesSetting tree plan key c.args.width n before old new setting) number
          (subst (λ k. MakesSetting tree plan k c.args.width (c.first-first.result + c.args.begun.now.count) before old new setting) c.in_ok-key.ensures c.in_ok-make_setting.ensures.whole)),
    )
