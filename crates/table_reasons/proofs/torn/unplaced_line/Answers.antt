-- the lines before are genuine
use Rattle.std.proofs.Common.{◌≡◌, ◌∙◌, ◌⊎◌, ◌+◌, ◌-◌, ap, refl, subst}
use Rattle.shards.specs.Shards.{first_run, past_run}
use Rattle.sweep_plan.specs.Sweep.{run_count}
use Rattle.sweep.specs.Sums.{BeginsWithLines, HasLineOf}
use Rattle.table_reasons.proofs.torn.unplaced_line.Goals as goal

pub returns : goal.returns
returns c =
    let first = c.first-first.ensures.first ∙ ap (first_run c.args.shard) c.runs-runs.ensures.count in
    let past = c.past.ensures.past ∙ ap (past_run c.args.shard) c.runs-runs.ensures.count in
    let key = c.args.key.now in
    let plan = c.args.plan.now in
    let left = c.in_ok-stood.stood.left.now in
    let count = c.in_ok-stood.stood.count in
    record {
      count = count;
      left = left;
      begins = subst (λ i. BeginsWithLines key plan i c.args.lines.now left count) first c.in_ok-stood.ensures.begins;
      number = refl;
      wrong =
          subst (λ j. (count ≡ j - first_run c.args.shard (run_count plan)) ⊎ ¬ (HasLineOf key plan (first_run c.args.shard (run_count plan) + count) left)) past
          (subst (λ i. (count ≡ c.past.result - i) ⊎ ¬ (HasLineOf key plan (i + count) left)) first c.in_ok-stood.ensures.no_more);
    }
