use Rattle.std.proofs.Common.{◌≡◌, ◌-◌, ◌/◌, ◌<◌, sym, subst}
use Rattle.shards.specs.Shards.{first_run, past_run}
use Rattle.shard_merge.specs.Among.{shard_at}
use Rattle.shard_merge.specs.Behind.{shared}
use Rattle.shard_merge.proofs.FirstRun.{first_there, in_shards, past_there, some_shared}
use Rattle.shard_merge.proofs.first_run.shard_of_first_run.Goals as goal

pub returns-clause-within : goal.returns-clause-within
returns-clause-within c =
    let plan = c.args.plan.now in
    let of = c.args.of in
    subst (λ n. (of - 1) / n < of) (sym c.shared.ensures) (in_shards of (shared plan.until plan) c.requires.some (some_shared plan plan.until c.requires.asked))

pub returns-clause-first : goal.returns-clause-first
returns-clause-first c =
    let plan = c.args.plan.now in
    let of = c.args.of in
    let total = shared plan.until plan in
    subst (λ n. first_run (shard_at ((of - 1) / n) of) total ≡ 0) (sym c.shared.ensures) (first_there of total c.requires.some (some_shared plan plan.until c.requires.asked))

pub returns-clause-some : goal.returns-clause-some
returns-clause-some c =
    let plan = c.args.plan.now in
    let of = c.args.of in
    let total = shared plan.until plan in
    subst (λ n. 0 < past_run (shard_at ((of - 1) / n) of) total) (sym c.shared.ensures) (past_there of total c.requires.some (some_shared plan plan.until c.requires.asked))

-- there is a run, or a setting
pub nonzero_div-result : goal.nonzero_div-result
nonzero_div-result c = subst (λ n. 0 < n) (sym c.shared.ensures) (some_shared c.args.plan.now c.args.plan.now.until c.requires.asked)
