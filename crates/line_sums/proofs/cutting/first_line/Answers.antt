use Rattle.std.proofs.Common.{refl}
use Rattle.line_sums.proofs.Cuts.{first_is_cut, line_first}
use Rattle.line_sums.proofs.cutting.first_line.Goals as goal

pub returns-clause-some : goal.returns-clause-some
returns-clause-some c = line_first c.args.text.now c.in-Some.body.now c.in-Some.left.now c.in-Some.ensures.some

pub returns-in_default-clause-none : goal.returns-in_default-clause-none
returns-in_default-clause-none c = λ _ line left first. first_is_cut c.args.text.now line left first (c.in_default.ensures.none refl)
