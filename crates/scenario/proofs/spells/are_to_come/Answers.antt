use Rattle.std.proofs.lemmas.Bool.{OnTrue_from}
use Rattle.scenario.proofs.Apart.{all_to_come}
use Rattle.scenario.proofs.spells.are_to_come.Goals as goal

pub returns : goal.returns
returns c = OnTrue_from _ _ (all_to_come c.args.spells.now c.requires c.args.at _)
