use Rattle.std.proofs.lemmas.Slice.Eq.{slice_eq-Decides}
use Rattle.incidents.proofs.Troubles.{flags_decide}
use Rattle.incidents.proofs.cluster.same_founders.Goals as goal

pub returns : goal.returns
returns c = slice_eq-Decides flags_decide c.args.some.now c.args.others.now _ c.eq.ensures
