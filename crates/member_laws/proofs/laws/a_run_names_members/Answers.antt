use Rattle.member_laws.proofs.Reached.{rows_named}
use Rattle.member_laws.proofs.laws.a_run_names_members.Goals as goal

pub returns : goal.returns
returns c = λ s keys rows w sound. rows_named s sound keys rows w
