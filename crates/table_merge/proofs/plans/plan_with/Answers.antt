use Rattle.std.proofs.Common.{◌∙◌, rules}
use Rattle.table_merge.specs.Seeds.{with_seeds}
use Rattle.table_merge.proofs.Ones.{asked_with}
use Rattle.table_merge.proofs.plans.plan_with.Goals as goal

pub returns-in-Ok-clause-some : goal.returns-in-Ok-clause-some
returns-in-Ok-clause-some c =
    let few = c.are_few.ensures.few (search rules) in
    c.in-Ok.ensures.only (with_seeds c.args.plan.now c.args.seeds) (asked_with c.args.plan.now c.args.seeds c.requires.asked c.requires.ordered c.requires.low few)
    (c.as_str.ensures.value ∙ c.in_ok-words.ensures)

pub returns-in-Ok-clause-asked : goal.returns-in-Ok-clause-asked
returns-in-Ok-clause-asked c =
    asked_with c.args.plan.now c.args.seeds c.requires.asked c.requires.ordered c.requires.low (c.are_few.ensures.few (search rules))

pub unreachable-requires : goal.unreachable-requires
unreachable-requires c =
    let refused = rw c.in-Err-Words.field-0-is at c.in-Err-Words.ensures.refused in
    refused (search rules) (with_seeds c.args.plan.now c.args.seeds)
    (asked_with c.args.plan.now c.args.seeds c.requires.asked c.requires.ordered c.requires.low (c.are_few.ensures.few (search rules))) (c.as_str.ensures.value ∙ c.in_ok-words.ensures)
