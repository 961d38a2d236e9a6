use Rattle.member_laws.proofs.Revivals.{revived_over}
use Rattle.member_laws.proofs.laws.a_higher_number_alone_revives.Goals as goal

pub returns : goal.returns
returns c = revived_over
