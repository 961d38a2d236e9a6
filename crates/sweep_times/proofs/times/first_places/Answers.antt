use Rattle.sweep_cells.proofs.Firsts.{firsts}
use Rattle.sweep_times.proofs.times.first_places.Goals as goal

pub returns : goal.returns
returns c = firsts c.args.places.now 12 _ c.min.ensures
