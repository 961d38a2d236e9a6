use Rattle.series.proofs.Holding.{held_by_spans}
use Rattle.series.proofs.laws.those_who_came_and_did_not_go_are_there.Goals as goal

pub returns : goal.returns
returns c = held_by_spans
