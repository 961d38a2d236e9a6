use Rattle.table_merge.proofs.Whole.{few_seeds, if_ok_then}
use Rattle.table_merge.proofs.joining.join.Goals as goal

pub returns-in-Some-clause-few : goal.returns-in-Some-clause-few
returns-in-Some-clause-few g c =
    if_ok_then c.join_seeds.result _ _ c.join_seeds.ensures.joined (λ joined h. few_seeds c.args.texts.now _ _ joined.plan joined.columns joined.settings.items h)
