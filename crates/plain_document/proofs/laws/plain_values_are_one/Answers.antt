use Rattle.plain_document.proofs.Plain.{plain_is_one}
use Rattle.plain_document.proofs.laws.plain_values_are_one.Goals as goal

pub returns : goal.returns
returns c = λ tick kind d one other some is more. plain_is_one tick kind d one other some is more
