use Rattle.std.proofs.Common.{◌∙◌, ◌-◌, ap}
use Rattle.toml.specs.View.{view}
use Rattle.shards.specs.Shards.{first_run, past_run}
use Rattle.sweep.proofs.Begins.{lines_begun}
use Rattle.sweep.proofs.begun.begun_of.Goals as goal

pub returns-clause-begun : goal.returns-clause-begun
returns-clause-begun c =
    let first = c.first-first.ensures.first ∙ ap (first_run c.args.shard) c.runs-runs.ensures.count in
    let past = c.past.ensures.past ∙ ap (past_run c.args.shard) c.runs-runs.ensures.count in
    lines_begun (view c.args.document.now) c.args.mark.now c.args.plan.now c.args.shard c.requires.shard c.args.text.now _ _ _ _ _ c.in_ok-stood.stood.count
    (rw c.in-Some.is at c.in_ok-lines.ensures.some) c.in_ok-key.ensures first (λ i. past i - first i) c.in_ok-stood.ensures.begins c.in_ok-stood.ensures.few c.in_ok-stood.ensures.no_more
