use Rattle.std.proofs.Common.{◌≡◌, ◌+◌, ◌-◌, [], arith, refl, rules, subst, sym}
use Rattle.toml.specs.View.{view}
use Rattle.run_output.proofs.Faults.{on_err}
use Rattle.sweep_until.specs.Until.{BeginsWide, HasSettings, MakesSetting, setting_course}
use Rattle.sweep_until.proofs.Settings.{begins_setting, begins_settings, setting_added}
use Rattle.sweep_until.proofs.ShardSettings.{none_yet}
use Rattle.sweep_until.proofs.until.make_settings.Goals as goal

pub loop-number-init : goal.loop-number-init
loop-number-init g c = record {
  low = omega arith;
  has = λ stretch start keyed from none.
      let zero : c.args.first - c.args.first ≡ 0 = omega arith in
      subst (λ n. HasSettings (view c.args.document.now) c.args.plan.now c.args.width stretch start (g.S.Sink.held c.args.table.now) n c.args.settings.now.items) (sym zero) none;
  same = refl;
}

pub loop-number-preserved : goal.loop-number-preserved
loop-number-preserved g c = record {
  low = omega (arith, c.loop-number.invariant.low);
  has = λ stretch start keyed from none.
      let tree = view c.args.document.now in
      let plan = c.args.plan.now in
      let next : c.loop-number.number + 1 - c.args.first ≡ c.loop-number.number - c.args.first + 1 = omega (arith, c.loop-number.invariant.low) in
      subst (λ n. HasSettings tree plan c.args.width stretch start (g.S.Sink.held c.make_setting.new.table) n c.push_setting.new.settings.items) (sym next)
      (setting_added tree plan stretch c.args.width start (g.S.Sink.held c.loop-number.table) (g.S.Sink.held c.make_setting.new.table) (c.loop-number.number - c.args.first) c.loop-number.number
      c.loop-number.settings.items _ c.in_ok-setting.setting (omega (arith, from, c.loop-number.invariant.low)) c.in_ok-push_setting.ensures (c.loop-number.invariant.has stretch start keyed from none) (subst (λ k. MakesSetting tree plan k c.args.width c.loop-number.number [] (g.S.Sink.held c.loop-number.table) (g.S.Sink.held c.make_setting.new.table) c.in_ok-setting.setting) (sym keyed) c.in_ok-setting.ensures.whole));
  same = search rules;
}

pub make_setting-requires-clause-open_yet : goal.make_setting-requires-clause-open_yet
make_setting-requires-clause-open_yet g c _ _ = none_yet c.args.plan.now c.args.width c.requires.asked

pub make_setting-requires-clause-within : goal.make_setting-requires-clause-within
make_setting-requires-clause-within g c = omega (arith, c.loop-number-test.true, c.loop-number.auto.number-end, c.requires.within)

pub returns-clause-whole : goal.returns-clause-whole
returns-clause-whole g c = λ stretch start keyed from none.
    let all : c.loop-number.number - c.args.first ≡ c.args.past - c.args.first = omega (arith, c.loop-number-test.false, c.loop-number.auto.number-end, c.requires.ordered) in
    subst (λ n. HasSettings (view c.args.document.now) c.args.plan.now c.args.width stretch start (g.S.Sink.held c.loop-number.table) n c.loop-number.settings.items) all
    (c.loop-number.invariant.has stretch start keyed from none)

pub returns-in_err-setting-clause-part : goal.returns-in_err-setting-clause-part
returns-in_err-setting-clause-part g c =
    on_err c.from_residual.result (λ stretch start keyed from count none.
    let tree = view c.args.document.now in
    let plan = c.args.plan.now in
    let mid = g.S.Sink.held c.loop-number.table in
    let new = g.S.Sink.held c.make_setting.new.table in
    let number = c.loop-number.number in
    let low = c.loop-number.invariant.low in
    begins_setting tree plan stretch c.args.width c.the_run_is_one.ensures c.a_run_exists.ensures c.requires.judged (omega (arith, from, count, c.requires.within, c.requires.ordered)) start new mid
    (number - c.args.first) number c.loop-number.settings.items (omega (arith, c.loop-number-test.true, c.loop-number.auto.number-end, count, low)) (omega (arith, from, low))
    (c.loop-number.invariant.has stretch start keyed from none) (subst (λ k. BeginsWide tree plan c.args.width [] (setting_course plan k number [] mid) new) (sym keyed) c.in_err-setting.ensures.part))

pub returns-in_err-push_setting-clause-part : goal.returns-in_err-push_setting-clause-part
returns-in_err-push_setting-clause-part g c =
    on_err c.from_residual-in_err-push_setting.result (λ stretch start keyed from count none.
    let tree = view c.args.document.now in
    let plan = c.args.plan.now in
    let mid = g.S.Sink.held c.loop-number.table in
    let new = g.S.Sink.held c.make_setting.new.table in
    let number = c.loop-number.number in
    let low = c.loop-number.invariant.low in
    begins_settings tree plan stretch c.args.width c.the_run_is_one.ensures c.a_run_exists.ensures c.requires.judged (omega (arith, from, count, c.requires.within, c.requires.ordered)) start new
    (number - c.args.first + 1) _ (omega (arith, c.loop-number-test.true, c.loop-number.auto.number-end, count, low))
    (setting_added tree plan stretch c.args.width start mid new (number - c.args.first) number c.loop-number.settings.items _ c.in_ok-setting.setting (omega (arith, from, low)) refl
    (c.loop-number.invariant.has stretch start keyed from none) (subst (λ k. MakesSetting tree plan k c.args.width c.loop-number.number [] (g.S.Sink.held c.loop-number.table) (g.S.Sink.held c.make_setting.new.table) c.in_ok-setting.setting) (sym keyed) c.in_ok-setting.ensures.whole)))
