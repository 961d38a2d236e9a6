use Rattle.plain_document.proofs.Plain.{plain_stays}
use Rattle.plain_document.proofs.laws.plain_values_stay.Goals as goal

pub returns : goal.returns
returns c = λ tick other kind d plain again is more. plain_stays tick other kind d plain again is more
