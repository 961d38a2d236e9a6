use Rattle.std.proofs.lemmas.Bool.Decides.{Decides-eqb}
use Rattle.std.proofs.lemmas.Slice.Eq.{strip_prefix_is}
use Rattle.sweep.proofs.Fronts.{behind, not_behind}
use Rattle.sweep.proofs.begun.rest_behind.Goals as goal

pub returns-clause-some : goal.returns-clause-some
returns-clause-some c =
    behind c.args.text.now c.args.header.now c.strip_prefix.result
    (strip_prefix_is Decides-eqb c.args.text.now c.args.header.now c.strip_prefix.result c.strip_prefix.ensures.cases)

pub returns-clause-none : goal.returns-clause-none
returns-clause-none c =
    not_behind c.args.text.now c.args.header.now c.strip_prefix.result
    (strip_prefix_is Decides-eqb c.args.text.now c.args.header.now c.strip_prefix.result c.strip_prefix.ensures.cases)
