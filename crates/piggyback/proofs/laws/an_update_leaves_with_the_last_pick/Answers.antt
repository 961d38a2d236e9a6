use Rattle.piggyback.proofs.Runs.{last_pick}
use Rattle.piggyback.proofs.laws.an_update_leaves_with_the_last_pick.Goals as goal

pub returns : goal.returns
returns c = last_pick
