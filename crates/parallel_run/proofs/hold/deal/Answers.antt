use Rattle.std.proofs.Common.{ap}
use Rattle.parallel_run.proofs.hold.deal.Goals as goal

pub returns-in-Ok-clause-dealt : goal.returns-in-Ok-clause-dealt
returns-in-Ok-clause-dealt g c = ap (λ v. v.dealt) c.in-Ok.ensures.item

pub returns-in-Ok-clause-taken : goal.returns-in-Ok-clause-taken
returns-in-Ok-clause-taken g c = ap (λ v. v.taken) c.in-Ok.ensures.item
