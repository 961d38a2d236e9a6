use Rattle.sweep.proofs.Flat.{seed_there_of}
use Rattle.sweep.proofs.planned.seed_at.Goals as goal

pub returns-in-Some-clause-seed : goal.returns-in-Some-clause-seed
returns-in-Some-clause-seed c = seed_there_of c.args.seeds c.in-Some.seeds c.args.place c.in-Some.is c.requires.within
