use Rattle.member.proofs.Fair.{steps_counted}
use Rattle.member.proofs.laws.rows_carry_the_key.Goals as goal

pub returns : goal.returns
returns c = steps_counted
