use Rattle.member_laws.proofs.Reached.{rows_on}
use Rattle.member_laws.proofs.laws.a_run_has_rows_only_of_what_is_on.Goals as goal

pub returns : goal.returns
returns c = λ s keys rows w sound. rows_on s sound keys rows w
