use Rattle.std.proofs.Common.{◌≡◌, ◌+◌, ◌-◌, ◌∙◌, ap, drop, sym, subst, arith}
use Rattle.std.specs.Io.KnownBytes.{Appends}
use Rattle.toml.specs.View.{view}
use Rattle.trace.specs.Sinks.{AppendsBeginning}
use Rattle.trace.proofs.Beginnings.{Keeps-same, beginning-none}
use Rattle.sweep_plan.specs.Sweep.{setting_count}
use Rattle.shards.specs.Shards.{first_run, past_run}
use Rattle.sweep.specs.Shards.{shard_header}
use Rattle.sweep.specs.Table.{columns_of}
use Rattle.run_output.proofs.Faults.{on_err}
use Rattle.sweep.proofs.Handing.{write_caused}
use Rattle.sweep_until.specs.Until.{HasSettings}
use Rattle.sweep_until.specs.Shards.{settings_in, first_setting, rest_settings}
use Rattle.sweep_until.proofs.Settings.{begins_settings, begins_front, settings_kept, no_setting}
use Rattle.sweep_until.proofs.ShardSettings.{settings_within, few_settings, rest_within}
use Rattle.sweep_until.proofs.tables.write_settings.Goals as goal

pub first-first-requires-clause-few : goal.first-first-requires-clause-few
first-first-requires-clause-few g c = omega (arith, few_settings c.args.plan.now c.requires.asked, c.settings-count.ensures)

pub overflow_add-from : goal.overflow_add-from
overflow_add-from g c = omega (arith, c.first-first.ensures.within, c.settings-count.ensures, c.requires.few, few_settings c.args.plan.now c.requires.asked, settings_within c.args.plan.now c.args.shard c.requires.shard)

pub past-till-requires-clause-few : goal.past-till-requires-clause-few
past-till-requires-clause-few g c = omega (arith, few_settings c.args.plan.now c.requires.asked, c.settings-count.ensures)

pub make_settings-requires-clause-within : goal.make_settings-requires-clause-within
make_settings-requires-clause-within g c _ _ = omega (arith, c.past-till.ensures.within, c.settings-count.ensures)

pub returns-in_err-key-clause-part : goal.returns-in_err-key-clause-part
returns-in_err-key-clause-part g c =
    let tree = view c.args.document.now in
    let plan = c.args.plan.now in
    let p = c.args.shard in
    let mark = c.args.mark.now in
    let kept = c.args.kept in
    let before = c.args.made in
    let old = g.S.Sink.held c.args.table.now in
    on_err c.from_residual.result
    (begins_front tree plan (rest_settings tree mark plan p kept before) c.args.width c.the_run_is_one.ensures c.a_run_exists.ensures c.requires.judged (rest_within plan p before c.requires.shard c.requires.few) old old
    (beginning-none old old (drop kept (shard_header (columns_of tree) mark plan p)) (Keeps-same old)))

pub returns-in_err-write_front_behind-clause-part : goal.returns-in_err-write_front_behind-clause-part
returns-in_err-write_front_behind-clause-part g c =
    let tree = view c.args.document.now in
    let plan = c.args.plan.now in
    let p = c.args.shard in
    let mark = c.args.mark.now in
    let width = c.args.width in
    let kept = c.args.kept in
    let before = c.args.made in
    let old = g.S.Sink.held c.args.table.now in
    let begun = g.S.Sink.held c.write_front_behind.new.table in
    let front = subst (λ b. AppendsBeginning old begun (drop kept (shard_header b mark plan p))) c.columns_of.ensures c.in_err-write_front_behind.ensures.part in
    on_err c.from_residual-in_err-write_front_behind.result
    (begins_front tree plan (rest_settings tree mark plan p kept before) width c.the_run_is_one.ensures c.a_run_exists.ensures c.requires.judged (rest_within plan p before c.requires.shard c.requires.few) old begun front)

pub returns-in_err-write_front_behind-clause-causes : goal.returns-in_err-write_front_behind-clause-causes
returns-in_err-write_front_behind-clause-causes g c = write_caused (view c.args.document.now) c.args.plan.now c.from_residual-in_err-write_front_behind.result _ c.from_residual-in_err-write_front_behind.ensures.1

pub returns-in_err-make_settings-clause-part : goal.returns-in_err-make_settings-clause-part
returns-in_err-make_settings-clause-part g c =
    let tree = view c.args.document.now in
    let plan = c.args.plan.now in
    let p = c.args.shard in
    let mark = c.args.mark.now in
    let width = c.args.width in
    let kept = c.args.kept in
    let before = c.args.made in
    let stretch = rest_settings tree mark plan p kept before in
    let old = g.S.Sink.held c.args.table.now in
    let begun = g.S.Sink.held c.write_front_behind.new.table in
    let new = g.S.Sink.held c.make_settings.new.table in
    let first : c.first-first.result + before ≡ first_setting plan p + before = ap (λ n. n + before) (c.first-first.ensures.first ∙ ap (first_run p) c.settings-count.ensures) in
    let past : c.past-till.result ≡ past_run p (setting_count plan.swept_keys) = c.past-till.ensures.past ∙ ap (past_run p) c.settings-count.ensures in
    let front = subst (λ b. Appends old begun (drop kept (shard_header b mark plan p))) c.columns_of.ensures c.in_ok-write_front_behind.ensures.whole in
    let none = subst (HasSettings tree plan width stretch old begun 0) (sym c.requires.fresh) (no_setting tree plan stretch width old begun front) in
    on_err c.from_residual-in_err-make_settings.result
    (c.in_err-make_settings.ensures.part stretch old (sym c.in_ok-key.ensures) (sym first) (omega (arith, first, past)) none)

pub returns-in_err-flush-clause-part : goal.returns-in_err-flush-clause-part
returns-in_err-flush-clause-part g c =
    let tree = view c.args.document.now in
    let plan = c.args.plan.now in
    let p = c.args.shard in
    let mark = c.args.mark.now in
    let width = c.args.width in
    let kept = c.args.kept in
    let before = c.args.made in
    let stretch = rest_settings tree mark plan p kept before in
    let old = g.S.Sink.held c.args.table.now in
    let begun = g.S.Sink.held c.write_front_behind.new.table in
    let full = g.S.Sink.held c.make_settings.new.table in
    let new = g.S.Sink.held c.flush.new.sink in
    let first : c.first-first.result + before ≡ first_setting plan p + before = ap (λ n. n + before) (c.first-first.ensures.first ∙ ap (first_run p) c.settings-count.ensures) in
    let past : c.past-till.result ≡ past_run p (setting_count plan.swept_keys) = c.past-till.ensures.past ∙ ap (past_run p) c.settings-count.ensures in
    let front = subst (λ b. Appends old begun (drop kept (shard_header b mark plan p))) c.columns_of.ensures c.in_ok-write_front_behind.ensures.whole in
    let none = subst (HasSettings tree plan width stretch old begun 0) (sym c.requires.fresh) (no_setting tree plan stretch width old begun front) in
    let count : c.past-till.result - (c.first-first.result + before) ≡ settings_in plan p - before = omega (arith, first, past) in
    on_err c.from_residual-in_err-flush.result
    (begins_settings tree plan stretch width c.the_run_is_one.ensures c.a_run_exists.ensures c.requires.judged (rest_within plan p before c.requires.shard c.requires.few) old new (c.past-till.result - (c.first-first.result + before)) _
    (omega (arith, count))
    (settings_kept tree plan stretch width old full new (c.past-till.result - (c.first-first.result + before)) _ c.flush.ensures.same (c.in_ok-make_settings.ensures.whole stretch old (sym c.in_ok-key.ensures) (sym first) none)))

pub returns-in_err-flush-clause-causes : goal.returns-in_err-flush-clause-causes
returns-in_err-flush-clause-causes g c = write_caused (view c.args.document.now) c.args.plan.now c.from_residual-in_err-flush.result _ c.from_residual-in_err-flush.ensures.1

pub returns-clause-whole : goal.returns-clause-whole
returns-clause-whole g c =
    let tree = view c.args.document.now in
    let plan = c.args.plan.now in
    let p = c.args.shard in
    let mark = c.args.mark.now in
    let width = c.args.width in
    let kept = c.args.kept in
    let before = c.args.made in
    let stretch = rest_settings tree mark plan p kept before in
    let old = g.S.Sink.held c.args.table.now in
    let begun = g.S.Sink.held c.write_front_behind.new.table in
    let full = g.S.Sink.held c.make_settings.new.table in
    let new = g.S.Sink.held c.flush.new.sink in
    let first : c.first-first.result + before ≡ first_setting plan p + before = ap (λ n. n + before) (c.first-first.ensures.first ∙ ap (first_run p) c.settings-count.ensures) in
    let past : c.past-till.result ≡ past_run p (setting_count plan.swept_keys) = c.past-till.ensures.past ∙ ap (past_run p) c.settings-count.ensures in
    let front = subst (λ b. Appends old begun (drop kept (shard_header b mark plan p))) c.columns_of.ensures c.in_ok-write_front_behind.ensures.whole in
    let none = subst (HasSettings tree plan width stretch old begun 0) (sym c.requires.fresh) (no_setting tree plan stretch width old begun front) in
    let count : c.past-till.result - (c.first-first.result + before) ≡ settings_in plan p - before = omega (arith, first, past) in
    subst (λ n. HasSettings tree plan width stretch old new n c.make_settings.new.settings.items) count
    (settings_kept tree plan stretch width old full new (c.past-till.result - (c.first-first.result + before)) _ c.flush.ensures.same (c.in_ok-make_settings.ensures.whole stretch old (sym c.in_ok-key.ensures) (sym first) none))
