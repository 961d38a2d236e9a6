use Rattle.member.proofs.Fair.{steps_numbered}
use Rattle.member.proofs.laws.numbers_are_used_once.Goals as goal

pub returns : goal.returns
returns c = steps_numbered
