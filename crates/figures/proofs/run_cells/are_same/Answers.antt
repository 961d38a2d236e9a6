use Rattle.std.proofs.lemmas.Slice.Eq.{slice_eq-Decides}
use Rattle.figures.proofs.Told.{option_decides}
use Rattle.figures.proofs.run_cells.are_same.Goals as goal

pub returns : goal.returns
returns c = slice_eq-Decides option_decides c.args.some.now c.args.others.now _ c.eq.ensures
