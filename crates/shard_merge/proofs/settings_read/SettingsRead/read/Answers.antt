use Rattle.std.proofs.Common.{◌≡◌, ◌∙◌, ◌≤◌, ◌+◌, Some, None, sym, ap, subst, arith}
use Rattle.std.specs.Prelude.{OnOk, IfErr}
use Rattle.sweep_plan.specs.Sweep.{setting_count, run_count, seed_count}
use Rattle.shards.specs.Shards.{first_run}
use Rattle.sweep.specs.Sums.{AreLinesOf}
use Rattle.sweep_until.proofs.ShardSettings.{a_width, few_settings}
use Rattle.table_rows.specs.Settings.{AreSettings, AreSettingsOf, ReadsSettings}
use Rattle.table_rows.specs.Lines.{AreLines, ReadsLines}
use Rattle.table_rows.specs.Refused.{Refuses}
use Rattle.shard_merge.specs.Behind.{AreBehind, GathersMore, ReadsBehind, share}
use Rattle.shard_merge.specs.declared.settings_read.SettingsRead.{SettingsRead}
use Rattle.shard_merge.proofs.Shares.{share_in}
use Rattle.shard_merge.proofs.settings_read.SettingsRead.read.Goals as goal

pub first-first-requires-clause-few : goal.first-first-requires-clause-few
first-first-requires-clause-few c = omega (arith, few_settings c.args.plan.now c.requires.asked, c.settings-all.ensures)

pub share-count-requires-clause-few : goal.share-count-requires-clause-few
share-count-requires-clause-few c = omega (arith, few_settings c.args.plan.now c.requires.asked, c.settings-all.ensures)

pub read_placed_settings-requires-clause-narrow : goal.read_placed_settings-requires-clause-narrow
read_placed_settings-requires-clause-narrow c = a_width c.args.plan.now c.in-Some.width c.requires.asked (sym c.until.ensures.same ∙ c.in-Some.is)

pub read_placed_settings-requires-clause-within : goal.read_placed_settings-requires-clause-within
read_placed_settings-requires-clause-within c =
    let total = setting_count c.args.plan.now.swept_keys in
    let first : c.first-first.result ≡ first_run c.args.shard total = c.first-first.ensures.first ∙ ap (first_run c.args.shard) c.settings-all.ensures in
    let many : c.share-count.result ≡ share total c.args.shard = c.share-count.ensures ∙ ap (λ n. share n c.args.shard) c.settings-all.ensures in
    subst (λ n. n + c.share-count.result ≤ total) (sym first) (subst (λ m. first_run c.args.shard total + m ≤ total) (sym many) (share_in c.args.shard total c.requires.shard))

pub read_placed_lines-requires-clause-within : goal.read_placed_lines-requires-clause-within
read_placed_lines-requires-clause-within c =
    let total = run_count c.args.plan.now in
    let first : c.first-first-in-None.result ≡ first_run c.args.shard total = c.first-first-in-None.ensures.first ∙ ap (first_run c.args.shard) c.runs-all.ensures.count in
    let many : c.share-count-in-None.result ≡ share total c.args.shard = c.share-count-in-None.ensures ∙ ap (λ n. share n c.args.shard) c.runs-all.ensures.count in
    subst (λ n. n + c.share-count-in-None.result ≤ total) (sym first) (subst (λ m. first_run c.args.shard total + m ≤ total) (sym many) (share_in c.args.shard total c.requires.shard))

pub returns-in-Some-clause-read : goal.returns-in-Some-clause-read
returns-in-Some-clause-read c =
    let plan = c.args.plan.now in
    let key = c.args.key.now in
    let lines = c.args.lines.now in
    let width = c.in-Some.width in
    let total = setting_count plan.swept_keys in
    let old = c.args.self.now.settings.items in
    let new = c.read_placed_settings.new.settings.items in
    let before = c.args.self.now in
    let after : SettingsRead = record { gathering = before.gathering; settings = c.read_placed_settings.new.settings } in
    let result = c.read_placed_settings.result in
    let some : plan.until ≡ Some width = sym c.until.ensures.same ∙ c.in-Some.is in
    let first = c.first-first.ensures.first ∙ ap (first_run c.args.shard) c.settings-all.ensures in
    let many = c.share-count.ensures ∙ ap (λ n. share n c.args.shard) c.settings-all.ensures in
    subst (λ o. OnOk result (ReadsBehind o key plan c.args.shard lines before after)) (sym some)
    (subst (λ n. OnOk result (ReadsSettings width (seed_count plan.seeds) lines n old new × AreSettingsOf key plan width (first_run c.args.shard total) lines n)) many
    (subst (λ f. OnOk result (ReadsSettings width (seed_count plan.seeds) lines c.share-count.result old new × AreSettingsOf key plan width f lines c.share-count.result)) first
    c.read_placed_settings.ensures.read))

pub returns-in-Some-clause-refused : goal.returns-in-Some-clause-refused
returns-in-Some-clause-refused c =
    let plan = c.args.plan.now in
    let key = c.args.key.now in
    let lines = c.args.lines.now in
    let width = c.in-Some.width in
    let total = setting_count plan.swept_keys in
    let result = c.read_placed_settings.result in
    let some : plan.until ≡ Some width = sym c.until.ensures.same ∙ c.in-Some.is in
    let first = c.first-first.ensures.first ∙ ap (first_run c.args.shard) c.settings-all.ensures in
    let many = c.share-count.ensures ∙ ap (λ n. share n c.args.shard) c.settings-all.ensures in
    subst (λ o. IfErr result (Refuses (AreBehind o key plan c.args.shard lines))) (sym some)
    (subst (λ n. IfErr result (Refuses (AreSettings width (seed_count plan.seeds) lines n × AreSettingsOf key plan width (first_run c.args.shard total) lines n))) many
    (subst (λ f. IfErr result (Refuses (AreSettings width (seed_count plan.seeds) lines c.share-count.result × AreSettingsOf key plan width f lines c.share-count.result))) first
    c.read_placed_settings.ensures.refused))

pub returns-in-None-clause-read : goal.returns-in-None-clause-read
returns-in-None-clause-read c =
    let plan = c.args.plan.now in
    let key = c.args.key.now in
    let lines = c.args.lines.now in
    let total = run_count plan in
    let before = c.args.self.now in
    let after : SettingsRead = record { gathering = c.read_placed_lines.new.gathering; settings = before.settings } in
    let result = c.read_placed_lines.result in
    let none : plan.until ≡ None = sym c.until.ensures.same ∙ c.in-None.is in
    let first = c.first-first-in-None.ensures.first ∙ ap (first_run c.args.shard) c.runs-all.ensures.count in
    let many = c.share-count-in-None.ensures ∙ ap (λ n. share n c.args.shard) c.runs-all.ensures.count in
    let count = c.share-count-in-None.result in
    subst (λ o. OnOk result (ReadsBehind o key plan c.args.shard lines before after)) (sym none)
    (subst (λ n. OnOk result (ReadsLines lines n (GathersMore before.gathering after.gathering) × AreLinesOf key plan (first_run c.args.shard total) lines n)) many
    (subst (λ f. OnOk result (ReadsLines lines count (GathersMore before.gathering after.gathering) × AreLinesOf key plan f lines count)) first c.read_placed_lines.ensures.read))

pub returns-in-None-clause-refused : goal.returns-in-None-clause-refused
returns-in-None-clause-refused c =
    let plan = c.args.plan.now in
    let key = c.args.key.now in
    let lines = c.args.lines.now in
    let total = run_count plan in
    let result = c.read_placed_lines.result in
    let none : plan.until ≡ None = sym c.until.ensures.same ∙ c.in-None.is in
    let first = c.first-first-in-None.ensures.first ∙ ap (first_run c.args.shard) c.runs-all.ensures.count in
    let many = c.share-count-in-None.ensures ∙ ap (λ n. share n c.args.shard) c.runs-all.ensures.count in
    let count = c.share-count-in-None.result in
    subst (λ o. IfErr result (Refuses (AreBehind o key plan c.args.shard lines))) (sym none)
    (subst (λ n. IfErr result (Refuses (AreLines lines n × AreLinesOf key plan (first_run c.args.shard total) lines n))) many
    (subst (λ f. IfErr result (Refuses (AreLines lines count × AreLinesOf key plan f lines count))) first c.read_placed_lines.ensures.refused))
