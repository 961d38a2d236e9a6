use Rattle.std.proofs.Common.{refl}
use Rattle.sweep.proofs.Gathered.{none_gathered}
use Rattle.sweep.proofs.gathering.Gathering.new.Goals as goal

pub returns : goal.returns
returns c = none_gathered c.args.each _ refl c.new.ensures.items c.new-2.ensures
