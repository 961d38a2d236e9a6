use Rattle.std.proofs.lemmas.Slice.Eq.{slice_eq-Decides}
use Rattle.incidents.proofs.Troubles.{troubles_decide}
use Rattle.incidents.proofs.cluster.same_troubles.Goals as goal

pub returns : goal.returns
returns c = slice_eq-Decides troubles_decide c.args.some.now c.args.others.now _ c.eq.ensures
