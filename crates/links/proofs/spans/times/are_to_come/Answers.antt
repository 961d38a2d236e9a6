use Rattle.std.proofs.lemmas.Bool.{OnTrue_from}
use Rattle.links.proofs.SlowOnes.{all_to_come}
use Rattle.links.proofs.spans.times.are_to_come.Goals as goal

pub returns : goal.returns
returns c = OnTrue_from _ _ (all_to_come c.args.times.now c.requires c.args.at _)
