use Rattle.std.proofs.Common.{refl}
use Rattle.std.proofs.lemmas.Bool.Decides.{Decides-eqb}
use Rattle.std.proofs.lemmas.Slice.Eq.{strip_prefix_is}
use Rattle.sweep.proofs.Fronts.{stripped, unstripped}
use Rattle.sweep.proofs.begun.is_beginning.Goals as goal

pub returns-clause-begins : goal.returns-clause-begins
returns-clause-begins c =
    stripped c.args.header.now _ _ c.strip_prefix.result refl
    (strip_prefix_is Decides-eqb c.args.header.now _ c.strip_prefix.result c.strip_prefix.ensures.cases) _ c.is_some.ensures

pub returns-clause-none : goal.returns-clause-none
returns-clause-none c =
    unstripped c.args.header.now _ _ c.strip_prefix.result refl
    (strip_prefix_is Decides-eqb c.args.header.now _ c.strip_prefix.result c.strip_prefix.ensures.cases) _ c.is_some.ensures
