use Rattle.std.proofs.Common.{◌≡◌, ◌++◌, ℕ, List, rules, subst}
use Rattle.sweep.specs.Shards.{shard_header}
use Rattle.shard_merge.proofs.Heads.{not_begun}
use Rattle.shard_merge.proofs.head.head_of.Goals as goal

pub returns-in-Err-Words-clause-none : goal.returns-in-Err-Words-clause-none
returns-in-Err-Words-clause-none c _ mark sweep p b = (rw c.in-Err-Words.field-0-is at c.in-Err-Words.ensures.refused) mark c.args.columns sweep p b

pub returns-then-not-begins-clause-none : goal.returns-then-not-begins-clause-none
returns-then-not-begins-clause-none c _ =
    let head = c.in-Ok.head in
    let same : c.as_bytes.result.now ≡ c.args.text.now = search rules in
    not_begun c.args.text.now head.mark.now head.columns c.args.columns head.plan head.shard c.in-Ok.ensures.same c.in-Ok.ensures.only
    (subst (λ (t : List ℕ). (rest : List ℕ) → ¬ (t ≡ shard_header head.columns head.mark.now head.plan head.shard ++ rest)) same
    (c.in_ok-begins.ensures.other c.if-not-begins.true))
