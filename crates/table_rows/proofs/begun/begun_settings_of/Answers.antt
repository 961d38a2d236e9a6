use Rattle.std.proofs.Common.{◌≡◌, ◌∙◌, ◌≤◌, ◌+◌, ◌-◌, ap, refl, rules, subst, sym, arith}
use Rattle.toml.specs.View.{view}
use Rattle.sweep_plan.specs.Sweep.{setting_count}
use Rattle.shards.specs.Shards.{first_run, past_run}
use Rattle.sweep.specs.Shards.{shard_header}
use Rattle.sweep.specs.Table.{columns_of}
use Rattle.sweep_until.specs.Shards.{settings_in, first_setting}
use Rattle.sweep_until.proofs.ShardSettings.{a_width, settings_within, few_settings}
use Rattle.table_rows.proofs.Standing.{after_within, front_within, left_within, lines_behind, long_stands, rest_within, short_stands}
use Rattle.table_rows.proofs.begun.begun_settings_of.Goals as goal

pub returns-in_default-clause-begun : goal.returns-in_default-clause-begun
returns-in_default-clause-begun c =
    short_stands (view c.args.document.now) c.args.mark.now c.args.plan.now c.args.width c.args.shard c.args.text.now
    c.new.result.items (search rules) ((rw c.in_default.is at c.in_ok-lines.ensures.none) refl)

pub first-first-requires-clause-few : goal.first-first-requires-clause-few
first-first-requires-clause-few c = omega (arith, few_settings c.args.plan.now c.requires.asked, c.settings-count.ensures)

pub past-requires-clause-few : goal.past-requires-clause-few
past-requires-clause-few c = omega (arith, few_settings c.args.plan.now c.requires.asked, c.settings-count.ensures)

pub settings_of_runs-requires-clause-narrow : goal.settings_of_runs-requires-clause-narrow
settings_of_runs-requires-clause-narrow c = a_width c.args.plan.now c.args.width c.requires.asked c.requires.wanted

pub settings_of_runs-requires-clause-within : goal.settings_of_runs-requires-clause-within
settings_of_runs-requires-clause-within c =
    let plan = c.args.plan.now in
    let first : c.first-first.result ≡ first_setting plan c.args.shard = c.first-first.ensures.first ∙ ap (first_run c.args.shard) c.settings-count.ensures in
    let past : c.past.result ≡ past_run c.args.shard (setting_count plan.swept_keys) = c.past.ensures.past ∙ ap (past_run c.args.shard) c.settings-count.ensures in
    let all : c.past.result - c.first-first.result ≡ settings_in plan c.args.shard = (λ i. past i - first i) in
    subst (λ n. n + (c.past.result - c.first-first.result) ≤ setting_count plan.swept_keys) (sym first)
    (subst (λ m. first_setting plan c.args.shard + m ≤ setting_count plan.swept_keys) (sym all) (settings_within plan c.args.shard c.requires.shard))

pub overflow_add-number : goal.overflow_add-number
overflow_add-number c =
    let past = c.past.ensures in
    omega (arith, c.in_ok-stood.ensures.few, c.past.ensures.within, c.settings-count.ensures, few_settings c.args.plan.now c.requires.asked)

pub overflow_add-first : goal.overflow_add-first
overflow_add-first c = omega (arith, c.past.ensures.within, c.settings-count.ensures, few_settings c.args.plan.now c.requires.asked)

pub behind_open-requires-clause-within : goal.behind_open-requires-clause-within
behind_open-requires-clause-within c =
    let plan = c.args.plan.now in
    let first : c.first-first.result ≡ first_setting plan c.args.shard = c.first-first.ensures.first ∙ ap (first_run c.args.shard) c.settings-count.ensures in
    let past : c.past.result ≡ past_run c.args.shard (setting_count plan.swept_keys) = c.past.ensures.past ∙ ap (past_run c.args.shard) c.settings-count.ensures in
    let within = settings_within plan c.args.shard c.requires.shard in
    omega (arith, first, past, within)

pub kept_of-kept-requires-clause-left : goal.kept_of-kept-requires-clause-left
kept_of-kept-requires-clause-left c =
    let plan = c.args.plan.now in
    let stood = c.in_ok-stood in
    let started = lines_behind c.in_ok-key.key plan c.args.width c.first-first.result (c.past.result - c.first-first.result) stood.stood.count _ _ stood.stood.left.now c.in_ok-left.left.now c.behind_open.new.started.items
    refl refl stood.ensures.few stood.ensures.no_more c.in_ok-left.ensures.past c.in_ok-left.ensures.open_lines in
    omega (
      arith,
      left_within c.in_ok-key.key plan c.args.width c.first-first.result stood.stood.count c.read_front-words.result.now stood.stood.left.now stood.ensures.begins,
      after_within c.in_ok-key.key plan c.args.width c.first-first.result (c.past.result - c.first-first.result) stood.stood.count stood.stood.left.now c.in_ok-left.left.now c.behind_open.new.started.items started,
    )

pub kept_of-kept-requires-clause-words : goal.kept_of-kept-requires-clause-words
kept_of-kept-requires-clause-words c = front_within _ _ c.read_front-words.ensures.0 c.read_front-words.ensures.1

pub kept_of-kept-requires-clause-lines : goal.kept_of-kept-requires-clause-lines
kept_of-kept-requires-clause-lines c =
    rest_within (shard_header (columns_of (view c.args.document.now)) c.args.mark.now c.args.plan.now c.args.shard) c.args.text.now c.in-Some.lines.now
    (rw c.in-Some.is at c.in_ok-lines.ensures.some)

pub returns-clause-begun : goal.returns-clause-begun
returns-clause-begun c =
    let first = c.first-first.ensures.first ∙ ap (first_run c.args.shard) c.settings-count.ensures in
    let past = c.past.ensures.past ∙ ap (past_run c.args.shard) c.settings-count.ensures in
    let stood = c.in_ok-stood in
    let started = lines_behind c.in_ok-key.key c.args.plan.now c.args.width c.first-first.result (c.past.result - c.first-first.result) stood.stood.count _ _ stood.stood.left.now c.in_ok-left.left.now
    c.behind_open.new.started.items refl refl stood.ensures.few stood.ensures.no_more c.in_ok-left.ensures.past c.in_ok-left.ensures.open_lines in
    long_stands (view c.args.document.now) c.args.mark.now c.args.plan.now c.args.width c.args.shard c.args.text.now _ _ _ c.in_ok-key.ensures first (λ i. past i - first i)
    c.in-Some.lines.now c.read_front-words.result.now stood.stood.left.now c.in_ok-left.left.now c.kept_of-kept.result stood.stood.count c.behind_open.new.started.items
    (rw c.in-Some.is at c.in_ok-lines.ensures.some) c.read_front-words.ensures stood.ensures.begins c.kept_of-kept.ensures stood.ensures.few started
