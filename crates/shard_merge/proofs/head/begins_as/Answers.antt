use Rattle.std.proofs.Common.{◌∙◌}
use Rattle.std.proofs.lemmas.Bool.Decides.{Decides-eqb}
use Rattle.std.proofs.lemmas.Slice.Eq.{strip_prefix_is}
use Rattle.sweep.proofs.Fronts.{stripped, unstripped}
use Rattle.shard_merge.proofs.head.begins_as.Goals as goal

pub returns-clause-begins : goal.returns-clause-begins
returns-clause-begins c =
    stripped c.args.text.now _ _ c.strip_prefix.result (c.as_slice.ensures.value ∙ c.in_ok-header.ensures.header)
    (strip_prefix_is Decides-eqb c.args.text.now _ c.strip_prefix.result c.strip_prefix.ensures.cases) _ c.is_some.ensures

pub returns-clause-other : goal.returns-clause-other
returns-clause-other c =
    unstripped c.args.text.now _ _ c.strip_prefix.result (c.as_slice.ensures.value ∙ c.in_ok-header.ensures.header)
    (strip_prefix_is Decides-eqb c.args.text.now _ c.strip_prefix.result c.strip_prefix.ensures.cases) _ c.is_some.ensures
