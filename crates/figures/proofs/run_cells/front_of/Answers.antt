use Rattle.std.proofs.lemmas.Bool.Decides.{Decides-eqb}
use Rattle.std.proofs.lemmas.Slice.Eq.{strip_suffix_is}
use Rattle.figures.proofs.Fed.{fed, not_fed}
use Rattle.figures.proofs.run_cells.front_of.Goals as goal

pub returns-clause-some : goal.returns-clause-some
returns-clause-some c = fed c.args.text.now _ c.strip_suffix.result (strip_suffix_is Decides-eqb c.args.text.now _ c.strip_suffix.result c.strip_suffix.ensures.cases)

pub returns-clause-none : goal.returns-clause-none
returns-clause-none c = not_fed c.args.text.now _ c.strip_suffix.result (strip_suffix_is Decides-eqb c.args.text.now _ c.strip_suffix.result c.strip_suffix.ensures.cases)
